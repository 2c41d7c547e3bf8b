use Rattle.std.proofs.Common.{[], sym, ◌∙◌, append-nil}
use Rattle.vl_eval.proofs.value.value.Goals as goal

pub returns-clause-value : goal.returns-clause-value
returns-clause-value c = λ files call fits e. (c.eval.ensures.reads.leads files call [] fits (e ∙ sym (append-nil _))).0
