use Rattle.std.proofs.Common.{map}
use Rattle.cell_emit.specs.cell_form.specs.Views.{cell_of}
use Rattle.cell_trim.specs.Marks.{Closes}
use Rattle.cell_trim.proofs.marks.close.Given as goal

abbrev pub invariant-loop-index : goal.invariant-loop-index
invariant-loop-index l = Closes l.first l.index (map cell_of l.cells) l.fn.marks.items l.marks.items
