use Rattle.ten_core.proofs.Fitting.{fit-fine}
use Rattle.ten_core.proofs.hold_laws.words_that_fit_are_fine.Goals as goal

pub returns : goal.returns
returns c = λ d words can h. fit-fine d can words h
