use Rattle.machine_rows.specs.Desks.{IsAt}
use Rattle.machine_rows.proofs.fabrics.race.to_end.Given as goal

abbrev pub invariant-turns : goal.invariant-turns
invariant-turns g l = IsAt l.wanted l.desk l.seat
