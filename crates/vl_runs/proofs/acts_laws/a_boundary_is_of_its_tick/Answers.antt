use Rattle.vl_runs.proofs.Ticking.{boundary_tick}
use Rattle.vl_runs.proofs.acts_laws.a_boundary_is_of_its_tick.Goals as goal

pub returns : goal.returns
returns c = λ o k q b f. boundary_tick o b f
