use Rattle.std.proofs.Common.{take}
use Rattle.std.specs.List.{flat_map}
use Rattle.cell_trim.specs.Marks.{Marked}
use Rattle.cell_trim.specs.Needs.{sources}
use Rattle.cell_trim.proofs.marks.mark_writes.Given as goal

abbrev pub invariant-loop-write : goal.invariant-loop-write
invariant-loop-write l = Marked l.first l.count (flat_map sources (take l.write-index l.sets)) l.fn.marks.items l.marks.items
