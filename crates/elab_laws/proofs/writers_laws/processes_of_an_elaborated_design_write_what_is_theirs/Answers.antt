use Rattle.elab_laws.proofs.Elaborated.{elaborated}
use Rattle.elab_laws.proofs.Written.{source-written}
use Rattle.elab_laws.proofs.writers_laws.processes_of_an_elaborated_design_write_what_is_theirs.Goals as goal

pub returns : goal.returns
returns c = λ s d h. let flat = elaborated s d h in source-written s flat.declared flat.used d flat.is
