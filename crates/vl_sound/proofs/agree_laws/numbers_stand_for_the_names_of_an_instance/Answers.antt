use Rattle.vl_sound.proofs.Stands.{stands}
use Rattle.vl_sound.proofs.agree_laws.numbers_stand_for_the_names_of_an_instance.Goals as goal

pub returns : goal.returns
returns c = stands
