use Rattle.vl_runs.proofs.Settle.{settles_once}
use Rattle.vl_runs.proofs.laws.a_queue_settles_in_one_state.Goals as goal

pub returns : goal.returns
returns g c = λ run wakes q a b r s. settles_once run wakes r s
