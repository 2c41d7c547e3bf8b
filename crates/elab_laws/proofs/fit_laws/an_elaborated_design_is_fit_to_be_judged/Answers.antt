use Rattle.elab_laws.proofs.Elaborated.{fit}
use Rattle.elab_laws.proofs.fit_laws.an_elaborated_design_is_fit_to_be_judged.Goals as goal

pub returns : goal.returns
returns c = fit
