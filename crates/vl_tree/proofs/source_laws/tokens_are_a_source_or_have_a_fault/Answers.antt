use Rattle.vl_tree.proofs.OneOutcome.{judged}
use Rattle.vl_tree.proofs.source_laws.tokens_are_a_source_or_have_a_fault.Goals as goal

pub returns : goal.returns
returns c ts = judged ts
