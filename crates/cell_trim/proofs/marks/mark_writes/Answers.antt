use Rattle.std.proofs.Common.{arith}
use Rattle.cell_trim.specs.Needs.{sources}
use Rattle.cell_trim.proofs.Marking.{marked-each}
use Rattle.cell_trim.proofs.marks.mark_writes.Goals as goal

pub loop-write-preserved : goal.loop-write-preserved
loop-write-preserved c =
    marked-each sources c.args.first c.args.count c.args.sets.now c.loop-write.write-index _ c.args.marks.now.items c.loop-write.marks.items
    c.mark_write.new.marks.items
    (omega arith) c.loop-write.invariant c.mark_write.ensures
