use Rattle.vl_sound.proofs.Sources.{source-places}
use Rattle.vl_sound.proofs.laws_laws.the_number_of_a_name_is_the_place_of_its_signal.Goals as goal

pub returns : goal.returns
returns c = source-places
