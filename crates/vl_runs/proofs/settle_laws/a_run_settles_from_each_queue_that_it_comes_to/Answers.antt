use Rattle.vl_paths.specs.vl_design.proofs.Settling.{settles_once}
use Rattle.vl_runs.proofs.Checks.{accepted}
use Rattle.vl_runs.proofs.Ticks.{Rested}
use Rattle.vl_runs.proofs.Reaching.{comes_rested}
use Rattle.vl_runs.proofs.settle_laws.a_run_settles_from_each_queue_that_it_comes_to.Goals as goal

pub returns-clause-settles : goal.returns-clause-settles
returns-clause-settles c = λ o order q k ord fine y.
    let r : Rested o.flat o.files (accepted o.flat k) order ord q = comes_rested o (accepted o.flat k) order ord fine y in
    (r.r, r.settles, r.rest)

pub returns-clause-once : goal.returns-clause-once
returns-clause-once c = λ d files q r s f g. settles_once f g
