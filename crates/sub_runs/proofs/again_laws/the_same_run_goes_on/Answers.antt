use Rattle.sub_runs.proofs.Transport.{same_goes_on}
use Rattle.sub_runs.proofs.again_laws.the_same_run_goes_on.Goals as goal

pub returns : goal.returns
returns c = λ o d k q r rows same x y on. same_goes_on o d k q r rows same x y on
