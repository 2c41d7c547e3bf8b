use Rattle.elab_laws.proofs.Elaborated.{elaborated}
use Rattle.elab_laws.proofs.Built.{source-names}
use Rattle.elab_laws.proofs.save_names_laws.an_elaborated_design_names_its_snapshots.Goals as goal

pub returns : goal.returns
returns c = λ s d h. let flat = elaborated s d h in source-names s flat.declared flat.used d flat.is
