use Rattle.vl_sound.proofs.Sources.{source-levels}
use Rattle.vl_sound.proofs.laws_laws.a_flat_design_has_no_more_than_128_levels.Goals as goal

pub returns : goal.returns
returns c = source-levels
