use Rattle.elab_laws.proofs.Built.{source-built}
use Rattle.elab_laws.proofs.laws.processes_are_as_elaboration_makes_them.Goals as goal

pub returns : goal.returns
returns c = source-built
