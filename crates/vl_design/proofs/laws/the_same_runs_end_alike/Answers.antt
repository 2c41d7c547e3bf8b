use Rattle.vl_design.proofs.Same.{same_ends}
use Rattle.vl_design.proofs.laws.the_same_runs_end_alike.Goals as goal

pub returns : goal.returns
returns c = λ o u k reason q s p e. same_ends o u s p k reason q e
