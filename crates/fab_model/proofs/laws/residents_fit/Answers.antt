use Rattle.fab_model.proofs.Fitting.{always_fit}
use Rattle.fab_model.proofs.laws.residents_fit.Goals as goal

pub returns : goal.returns
returns c = always_fit
