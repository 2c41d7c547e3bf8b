use Rattle.host_form.proofs.Ends.{has-stop}
use Rattle.host_form.proofs.laws.a_stopped_tenant_has_a_stop.Goals as goal

pub returns : goal.returns
returns c = λ fabrics histories answers n t r h e. has-stop fabrics histories answers n t r h e
