use Rattle.vl_sound.proofs.Bodies.{body-agrees}
use Rattle.vl_sound.proofs.agree_laws.names_in_a_function_stand_for_what_they_are.Goals as goal

pub returns : goal.returns
returns c = body-agrees
