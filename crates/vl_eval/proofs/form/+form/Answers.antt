use Rattle.std.proofs.Common.{arith}
use Rattle.vl_eval.specs.Rooms.{names_of}
use Rattle.vl_eval.proofs.Rows.{has-parts}
use Rattle.vl_eval.proofs.form.+form.Goals as goal

pub total_width-loop-part-init : goal.total_width-loop-part-init
total_width-loop-part-init t c =
    let p = has-parts (names_of c.args.room.now) c.args.e.now c.in-Cat.parts c.in-Cat.is c.requires in
    rw (c.deref-part-items.ensures.value)
    record {
      sound = p.sound;
      narrow = rw (p.are) p.narrow;
      sum = rw (p.are) (omega arith);
    }
