use Rattle.vl_sound.proofs.Statements.{statement-sound}
use Rattle.vl_sound.proofs.laws.a_used_statement_without_faults_is_sound.Goals as goal

pub returns : goal.returns
returns c = statement-sound
