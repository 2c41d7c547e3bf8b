use Rattle.vl_design.proofs.OncePerAct.{after_once}
use Rattle.vl_design.proofs.laws.is_at_one_point_after_an_act.Goals as goal

pub returns : goal.returns
returns c = λ o c p r x y. after_once o x y
