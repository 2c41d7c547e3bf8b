use Rattle.vl_runs.proofs.Checks.{accepted}
use Rattle.vl_runs.proofs.Solutions.{pass_is}
use Rattle.vl_runs.proofs.settle_laws.solved_values_are_those_of_one_pass.Goals as goal

pub returns : goal.returns
returns c = λ d files order s w k ord f fs fw solved same. pass_is d files (accepted d k) order ord s w f fs fw solved same
