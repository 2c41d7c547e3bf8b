use Rattle.vl_runs.proofs.Logging.{each_counts, counts_up}
use Rattle.vl_runs.proofs.acts_laws.each_act_in_the_log_is_counted.Goals as goal

pub returns : goal.returns
returns c = record { one_by_one = λ scope a s. counts_up scope a s; all = λ scope a s. each_counts scope a s }
