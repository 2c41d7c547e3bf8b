use Rattle.vl_runs.proofs.Checks.{accepted}
use Rattle.vl_runs.proofs.Reaching.{comes_steady, calm_solved}
use Rattle.vl_runs.proofs.settle_laws.all_are_solved_where_nobody_is_pending.Goals as goal

pub returns : goal.returns
returns c = λ o order q k ord fine y f h. calm_solved o.flat o.files (accepted o.flat k) order ord q (comes_steady o (accepted o.flat k) order ord fine y f).ready h
