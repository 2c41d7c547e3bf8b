use Rattle.machine_rows.specs.Cores.{IsCore}
use Rattle.machine_rows.proofs.fabrics.orders.cycle.Given as goal

abbrev pub invariant-cycles : goal.invariant-cycles
invariant-cycles l = IsCore l.core
