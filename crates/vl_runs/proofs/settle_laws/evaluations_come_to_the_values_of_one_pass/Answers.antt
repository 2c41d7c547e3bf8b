use Rattle.vl_runs.proofs.Checks.{accepted}
use Rattle.vl_runs.proofs.Calming.{Calming, calming}
use Rattle.vl_runs.proofs.Reaching.{comes_steady}
use Rattle.vl_runs.proofs.settle_laws.evaluations_come_to_the_values_of_one_pass.Goals as goal

pub returns : goal.returns
returns c = λ o order q k ord fine y f.
    let r : Calming o.flat o.files (accepted o.flat k) order ord q =
    calming o.flat o.files (accepted o.flat k) order ord q f (comes_steady o (accepted o.flat k) order ord fine y f).ready in
    (r.calmed, r.pass)
