use Rattle.std.proofs.Common.{refl}
use Rattle.vl_runs.proofs.Logging.{pauses_in, uptos_pause}
use Rattle.vl_runs.proofs.acts_laws.statements_pause_before_the_first_act_of_their_log.Goals as goal

pub returns : goal.returns
returns c = λ scope rest s u f. pauses_in scope _ _ _ (uptos_pause scope _ _ rest s u f refl refl)
