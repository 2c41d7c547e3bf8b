use Rattle.ten_make.proofs.Sums.{node-within}
use Rattle.ten_make.proofs.laws.nodes_are_within_cost.Goals as goal

pub returns : goal.returns
returns c = λ d order sound variables below once paired n x h. node-within d order sound variables below once paired n x h
