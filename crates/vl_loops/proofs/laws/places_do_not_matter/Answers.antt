use Rattle.vl_loops.proofs.Placing.{flat_plain}
use Rattle.vl_loops.proofs.laws.places_do_not_matter.Goals as goal

pub returns : goal.returns
returns c = λ d can. flat_plain d can
