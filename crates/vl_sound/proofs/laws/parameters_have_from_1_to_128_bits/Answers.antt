use Rattle.vl_sound.proofs.Whole.{parameters-wide}
use Rattle.vl_sound.proofs.laws.parameters_have_from_1_to_128_bits.Goals as goal

pub returns : goal.returns
returns c = parameters-wide
