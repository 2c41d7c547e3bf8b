use Rattle.std.proofs.Common.{arith}
use Rattle.vl_run.proofs.Spotting.{list-of}
use Rattle.cell_expr.proofs.spot.+width.Goals as goal

pub loop-part-init : goal.loop-part-init
loop-part-init t c =
    let e = list-of c.args.target.now c.in-List.parts c.in-List.is in
    let sound = rw e at c.requires.sound in
    rw (c.deref-part-items.ensures.value)
    record {
      sound = sound.1;
      narrow = rw e sound.0.narrow;
      sum = rw e (omega arith);
    }
