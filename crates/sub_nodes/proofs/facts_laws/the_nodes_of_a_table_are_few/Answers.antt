use Rattle.sub_nodes.proofs.Leading.{table_few}
use Rattle.sub_nodes.proofs.facts_laws.the_nodes_of_a_table_are_few.Goals as goal

pub returns : goal.returns
returns c = λ d. table_few d
