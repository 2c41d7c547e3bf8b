use Rattle.vl_loops.proofs.Costing.{cost_same}
use Rattle.vl_loops.proofs.laws.costs_the_same.Goals as goal

pub returns : goal.returns
returns c = λ d. cost_same d
