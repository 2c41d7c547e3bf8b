use Rattle.std.proofs.Common.{◌≡◌, ◌++◌, drop}
use Rattle.snap_form.specs.Spelling.{words, widths, AreWords}
use Rattle.snap_form.proofs.writing.put_values.Given as goal

abbrev pub invariant-loop-row : goal.invariant-loop-row
invariant-loop-row l =
    AreWords (widths (drop l.row-index l.rows)) l.left
    × (l.out.items ++ words (widths (drop l.row-index l.rows)) l.left ≡ l.initial.out.items ++ words (widths l.rows) l.words)
