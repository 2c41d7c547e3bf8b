use Rattle.vl_design.proofs.OncePerAct.{before_once}
use Rattle.vl_design.proofs.laws.is_at_one_point_before_a_call.Goals as goal

pub returns : goal.returns
returns c = λ o c x y p r b d. before_once o b d
