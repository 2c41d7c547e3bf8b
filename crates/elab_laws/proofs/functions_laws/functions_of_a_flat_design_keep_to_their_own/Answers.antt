use Rattle.elab_laws.proofs.OwnFunctions.{source-own}
use Rattle.elab_laws.proofs.functions_laws.functions_of_a_flat_design_keep_to_their_own.Goals as goal

pub returns : goal.returns
returns c = source-own
