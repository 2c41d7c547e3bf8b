use Rattle.std.proofs.Common.{◌≡◌, [], drop}
use Rattle.snap_form.specs.Reading.{words_at}
use Rattle.snap_form.specs.Spelling.{widths}
use Rattle.snap_form.proofs.reading.values_of.Given as goal

abbrev pub invariant-loop-row : goal.invariant-loop-row
invariant-loop-row l = words_at (widths (drop l.row-index l.rows)) l.words.items l.rest ≡ words_at (widths l.rows) [] l.left
