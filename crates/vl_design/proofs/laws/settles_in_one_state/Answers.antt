use Rattle.vl_design.proofs.Settling.{settles_once}
use Rattle.vl_design.proofs.laws.settles_in_one_state.Goals as goal

pub returns : goal.returns
returns c = λ d files q a b r s. settles_once r s
