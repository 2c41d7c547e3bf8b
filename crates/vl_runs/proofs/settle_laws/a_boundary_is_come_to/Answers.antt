use Rattle.vl_runs.proofs.Boundaries.{boundary_comes}
use Rattle.vl_runs.proofs.settle_laws.a_boundary_is_come_to.Goals as goal

pub returns : goal.returns
returns c = λ o k q b. boundary_comes o b
