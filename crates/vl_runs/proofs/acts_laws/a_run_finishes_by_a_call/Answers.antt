use Rattle.vl_runs.proofs.Finishing.{by_finish}
use Rattle.vl_runs.proofs.acts_laws.a_run_finishes_by_a_call.Goals as goal

pub returns : goal.returns
returns c = λ o n p u h a f. by_finish o u h a f
