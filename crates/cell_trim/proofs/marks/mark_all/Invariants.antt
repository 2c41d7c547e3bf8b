use Rattle.std.proofs.Common.{take}
use Rattle.cell_trim.specs.Marks.{Marked}
use Rattle.cell_trim.proofs.marks.mark_all.Given as goal

abbrev pub invariant-loop-slot : goal.invariant-loop-slot
invariant-loop-slot l = Marked l.first l.count (take l.slot-index l.slots) l.fn.marks.items l.marks.items
