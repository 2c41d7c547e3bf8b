use Rattle.vl_loops.proofs.Calling.{calls_same}
use Rattle.vl_loops.proofs.laws.functions_give_the_same.Goals as goal

pub returns : goal.returns
returns c = λ d files n f args can. calls_same d can files n f args
