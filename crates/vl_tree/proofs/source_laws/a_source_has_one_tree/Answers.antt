use Rattle.vl_tree.proofs.OneOutcome.{one_tree}
use Rattle.vl_tree.proofs.source_laws.a_source_has_one_tree.Goals as goal

pub returns : goal.returns
returns c ts s other d f = one_tree ts s other d f
