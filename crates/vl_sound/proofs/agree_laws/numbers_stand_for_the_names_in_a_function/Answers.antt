use Rattle.vl_sound.proofs.Stands.{function-stands-for}
use Rattle.vl_sound.proofs.agree_laws.numbers_stand_for_the_names_in_a_function.Goals as goal

pub returns : goal.returns
returns c = function-stands-for
