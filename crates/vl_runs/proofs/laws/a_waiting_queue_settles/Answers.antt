use Rattle.vl_runs.proofs.Settle.{Rests, settles, as_one_pass}
use Rattle.vl_runs.proofs.laws.a_waiting_queue_settles.Goals as goal

pub returns : goal.returns
returns g c = λ at fine run wakes drives reads n order q laws o w.
    let r : Rests laws order o q = settles laws order o q w in
    (r.r, r.settles, r.solved, as_one_pass laws order o q w)
