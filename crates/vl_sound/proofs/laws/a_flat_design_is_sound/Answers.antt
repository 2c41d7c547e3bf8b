use Rattle.vl_sound.proofs.Whole.{source-sound}
use Rattle.vl_sound.proofs.laws.a_flat_design_is_sound.Goals as goal

pub returns : goal.returns
returns c = record { sound = λ s fine used d is. (source-sound s fine used d is).sound; inputs = λ s fine used d is. (source-sound s fine used d is).inputs }
