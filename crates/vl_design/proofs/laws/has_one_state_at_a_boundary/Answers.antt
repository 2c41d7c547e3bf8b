use Rattle.vl_design.proofs.Settling.{boundary_once}
use Rattle.vl_design.proofs.laws.has_one_state_at_a_boundary.Goals as goal

pub returns : goal.returns
returns c = λ o k a b r s. boundary_once r s
