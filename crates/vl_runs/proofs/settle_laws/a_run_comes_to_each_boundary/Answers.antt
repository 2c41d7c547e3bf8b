use Rattle.vl_runs.proofs.Checks.{accepted}
use Rattle.vl_runs.proofs.Boundaries.{boundary}
use Rattle.vl_runs.proofs.settle_laws.a_run_comes_to_each_boundary.Goals as goal

pub returns : goal.returns
returns c = λ o order k x ord fine l. boundary o (accepted o.flat x) order ord fine k l
