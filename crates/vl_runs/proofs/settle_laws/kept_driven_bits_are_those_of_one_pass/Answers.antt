use Rattle.vl_runs.proofs.Checks.{accepted}
use Rattle.vl_runs.proofs.Solutions.{kept_are}
use Rattle.vl_runs.proofs.settle_laws.kept_driven_bits_are_those_of_one_pass.Goals as goal

pub returns : goal.returns
returns c = λ d files order s v w k ord f fs fw solved kept same. kept_are d files (accepted d k) order ord s v w f fs fw solved kept same
