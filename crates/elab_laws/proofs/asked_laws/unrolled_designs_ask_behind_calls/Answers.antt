use Rattle.elab_laws.proofs.AcceptedDesigns.{accepted-asks}
use Rattle.elab_laws.proofs.asked_laws.unrolled_designs_ask_behind_calls.Goals as goal

pub returns : goal.returns
returns c = λ d a fit h s. accepted-asks d a fit s h
