use Rattle.std.proofs.Common.{◌≡◌, drop}
use Rattle.snap_form.specs.Reading.{rows_at}
use Rattle.snap_form.proofs.reading.rows_of.Given as goal

abbrev pub invariant-loop-row : goal.invariant-loop-row
invariant-loop-row l = rows_at (drop l.row-index l.rows) l.rest ≡ rows_at l.rows l.left
