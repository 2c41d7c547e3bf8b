use Rattle.std.proofs.Common.{arith}
use Rattle.cell_trim.proofs.Marking.{marked-more}
use Rattle.cell_trim.proofs.marks.mark_all.Goals as goal

pub loop-slot-preserved : goal.loop-slot-preserved
loop-slot-preserved c =
    marked-more c.args.first c.args.count c.args.slots.now c.loop-slot.slot-index 0 c.args.marks.now.items c.loop-slot.marks.items c.mark.new.marks.items
    (omega arith) c.loop-slot.invariant c.mark.ensures
