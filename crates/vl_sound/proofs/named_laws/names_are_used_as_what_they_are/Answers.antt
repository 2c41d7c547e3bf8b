use Rattle.vl_sound.proofs.Modules.{source-used}
use Rattle.vl_sound.proofs.named_laws.names_are_used_as_what_they_are.Goals as goal

pub returns : goal.returns
returns c = source-used
