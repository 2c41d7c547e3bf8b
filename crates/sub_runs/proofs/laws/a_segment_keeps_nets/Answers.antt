use Rattle.sub_runs.proofs.Cycles.{segment_holds, segment_zero}
use Rattle.sub_runs.proofs.laws.a_segment_keeps_nets.Goals as goal

pub returns : goal.returns
returns c = record {
  hold = λ d order files g i k w e f h. segment_holds d files g w k order i e f h;
  zero = λ d files g i w h. segment_zero d files g w i h;
}
