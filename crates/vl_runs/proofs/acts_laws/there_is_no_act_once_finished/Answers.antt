use Rattle.vl_runs.proofs.Logging.{none_over}
use Rattle.vl_runs.proofs.acts_laws.there_is_no_act_once_finished.Goals as goal

pub returns : goal.returns
returns c = λ scope a s h. none_over scope a s h
