use Rattle.vl_design.proofs.Resting.{case_done}
use Rattle.vl_design.proofs.laws.a_case_does_what_its_branch_does.Goals as goal

pub returns : goal.returns
returns c = λ scope e items s. case_done scope e items s
