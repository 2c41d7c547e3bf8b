use Rattle.vl_sound.proofs.DeclaredOfLaws.{all-apart}
use Rattle.vl_sound.proofs.laws_laws.signals_have_names_of_their_own.Goals as goal

pub returns : goal.returns
returns c = all-apart
