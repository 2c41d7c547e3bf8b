use Rattle.sub_nodes.proofs.Coded.{wave_implements}
use Rattle.sub_nodes.proofs.laws.the_nodes_of_statements_implement_them.Goals as goal

pub returns : goal.returns
returns c = λ nodes from update xs g h. wave_implements nodes from update xs g h
