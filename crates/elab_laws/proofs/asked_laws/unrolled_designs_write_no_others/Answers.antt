use Rattle.elab_laws.proofs.AcceptedDesigns.{accepted-leaves}
use Rattle.elab_laws.proofs.asked_laws.unrolled_designs_write_no_others.Goals as goal

pub returns : goal.returns
returns c = accepted-leaves
