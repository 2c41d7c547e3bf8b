use Rattle.vl_sound.proofs.Expressions.{sound}
use Rattle.vl_sound.proofs.laws.a_used_expression_without_faults_is_sound.Goals as goal

pub returns : goal.returns
returns c = sound
