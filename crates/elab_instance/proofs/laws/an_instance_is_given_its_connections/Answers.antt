use Rattle.elab_instance.proofs.Givens.{given-same}
use Rattle.elab_instance.proofs.laws.an_instance_is_given_its_connections.Goals as goal

pub returns : goal.returns
returns c = given-same
