use Rattle.vl_loops.proofs.Sounding.{flat_sound}
use Rattle.vl_loops.proofs.laws.stays_sound.Goals as goal

pub returns : goal.returns
returns c = λ d h. flat_sound d h
