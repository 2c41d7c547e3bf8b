use Rattle.machine_rows.specs.Cores.{IsCore}
use Rattle.machine_rows.proofs.fabrics.judge.answers_at.Given as goal

abbrev pub invariant-orders : goal.invariant-orders
invariant-orders l = IsCore l.core
