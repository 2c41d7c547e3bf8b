use Rattle.sub_nodes.proofs.Passing.{table_fits}
use Rattle.sub_nodes.proofs.facts_laws.nodes_hold_what_blocks_hold.Goals as goal

pub returns : goal.returns
returns c = λ d p e l r u passes h. table_fits _ _ _ _ d u passes h
