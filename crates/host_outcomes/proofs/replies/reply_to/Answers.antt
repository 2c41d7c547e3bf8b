use Rattle.std.proofs.Common.{length, List, subst, sym}
use Rattle.host_judge.specs.host_text.specs.declared.script.FabricLine.{FabricLine}
use Rattle.host_judge.specs.host_text.specs.Laws.{IsFree}
use Rattle.host_outcomes.proofs.replies.reply_to.Goals as goal

pub reply_at_once-requires-clause-order : goal.reply_at_once-requires-clause-order
reply_at_once-requires-clause-order c =
    (length c.args.refusals.now, subst (λ (fs : List FabricLine). IsFree (length fs) (length c.args.refusals.now) c.args.order.now) (sym c.as_slice.ensures) c.requires.order)
