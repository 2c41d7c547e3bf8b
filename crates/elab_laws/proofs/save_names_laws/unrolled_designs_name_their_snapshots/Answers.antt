use Rattle.elab_laws.proofs.AcceptedDesigns.{accepted-names}
use Rattle.elab_laws.proofs.save_names_laws.unrolled_designs_name_their_snapshots.Goals as goal

pub returns : goal.returns
returns c = λ d a fit h s. accepted-names d a fit s h
