use Rattle.elab_laws.proofs.Elaborated.{elaborated}
use Rattle.elab_laws.proofs.Limits.{flat-limited}
use Rattle.elab_laws.proofs.limited_laws.signals_of_an_elaborated_design_are_limited.Goals as goal

pub returns : goal.returns
returns c = λ s d h. flat-limited s d (elaborated s d h).is
