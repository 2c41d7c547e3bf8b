use Rattle.vl_runs.proofs.Emptied.{serves}
use Rattle.vl_runs.proofs.acts_laws.serving_a_call_is_its_act.Goals as goal

pub returns : goal.returns
returns c = λ o n task q rest from committed b. serves q rest from committed b
