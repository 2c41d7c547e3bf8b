use Rattle.vl_sound.proofs.Agree.{agrees}
use Rattle.vl_sound.proofs.agree_laws.names_stand_for_what_they_are.Goals as goal

pub returns : goal.returns
returns c = agrees
