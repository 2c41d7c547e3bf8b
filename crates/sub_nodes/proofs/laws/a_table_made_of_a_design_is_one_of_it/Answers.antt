use Rattle.sub_nodes.proofs.Coded.{table_implements}
use Rattle.sub_nodes.proofs.laws.a_table_made_of_a_design_is_one_of_it.Goals as goal

pub returns : goal.returns
returns c = λ d. table_implements d
