use Rattle.vl_sound.proofs.Expressions.{form-is}
use Rattle.vl_sound.proofs.laws.a_used_expression_has_the_width_by_which_it_is_judged.Goals as goal

pub returns : goal.returns
returns c = form-is
