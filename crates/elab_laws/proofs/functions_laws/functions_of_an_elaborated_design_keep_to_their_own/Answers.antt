use Rattle.elab_laws.proofs.Elaborated.{elaborated}
use Rattle.elab_laws.proofs.OwnFunctions.{source-own}
use Rattle.elab_laws.proofs.functions_laws.functions_of_an_elaborated_design_keep_to_their_own.Goals as goal

pub returns : goal.returns
returns c = λ s d h. let flat = elaborated s d h in source-own s flat.declared flat.used d flat.is
