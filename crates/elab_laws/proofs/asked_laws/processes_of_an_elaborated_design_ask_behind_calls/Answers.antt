use Rattle.elab_laws.proofs.Elaborated.{elaborated}
use Rattle.elab_laws.proofs.Built.{source-asks}
use Rattle.elab_laws.proofs.asked_laws.processes_of_an_elaborated_design_ask_behind_calls.Goals as goal

pub returns : goal.returns
returns c = λ s d h. let flat = elaborated s d h in source-asks s flat.declared flat.used d flat.is
