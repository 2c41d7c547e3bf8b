use Rattle.machine_rows.specs.Cores.{IsCore}
use Rattle.machine_rows.proofs.fabrics.mix.mix.Given as goal

abbrev pub invariant-events : goal.invariant-events
invariant-events l = IsCore l.core
