use Rattle.vl_loops.proofs.Waking.{run_same}
use Rattle.vl_loops.proofs.laws.runs_the_same.Goals as goal

pub returns : goal.returns
returns c = λ o can. run_same o can
