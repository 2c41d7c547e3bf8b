use Rattle.vl_runs.proofs.Standing.{between}
use Rattle.vl_runs.proofs.acts_laws.a_point_between_waves_is_come_to.Goals as goal

pub returns : goal.returns
returns c = λ o n q u h a. between o u h q a
