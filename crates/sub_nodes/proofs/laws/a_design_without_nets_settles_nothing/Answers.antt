use Rattle.sub_nodes.proofs.Netless.{are_nets}
use Rattle.sub_nodes.proofs.laws.a_design_without_nets_settles_nothing.Goals as goal

pub returns : goal.returns
returns c = λ o h. are_nets o h
