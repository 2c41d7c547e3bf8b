use Rattle.sub_runs.proofs.Passes.{are_nets}
use Rattle.sub_runs.proofs.laws.a_designs_nets_are_those_of_one_pass.Goals as goal

pub returns : goal.returns
returns c = λ o order k u ord fine. are_nets o k u order ord fine
