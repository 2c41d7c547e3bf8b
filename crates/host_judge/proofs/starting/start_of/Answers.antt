use Rattle.host_files.specs.host_form.specs.Origins.{anew}
use Rattle.host_judge.proofs.starting.start_of.Goals as goal

pub returns-in-None : goal.returns-in-None
returns-in-None c = rw c.in-None.is (anew, tt)
