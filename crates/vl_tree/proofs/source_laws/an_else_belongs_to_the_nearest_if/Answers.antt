use Rattle.vl_tree.proofs.OneOutcome.{no_else_behind}
use Rattle.vl_tree.proofs.source_laws.an_else_belongs_to_the_nearest_if.Goals as goal

pub returns : goal.returns
returns c b d p e a ts rest f n = no_else_behind p e a f n
