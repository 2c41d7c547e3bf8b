use Rattle.vl_sound.proofs.Sources.{source-functions}
use Rattle.vl_sound.proofs.laws_laws.the_number_of_a_function_is_its_place.Goals as goal

pub returns : goal.returns
returns c = source-functions
