use Rattle.machine_rows.specs.Desks.{IsAt}
use Rattle.machine_rows.proofs.fabrics.desks.answers_at.Given as goal

abbrev pub invariant-orders : goal.invariant-orders
invariant-orders g l = IsAt l.wanted l.desk l.seat
