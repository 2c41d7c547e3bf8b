use Rattle.std.proofs.Common.{sym, ◌∙◌}
use Rattle.host_run.proofs.Refused.{none_of, some_at}
use Rattle.host_run.proofs.said.any_refused.Goals as goal

pub returns-then-is_some : goal.returns-then-is_some
returns-then-is_some c =
    some_at c.args.refusals.now c.loop-refusal.refusal-index c.refusal-item.result c.loop-refusal-test.true c.refusal-item.is (sym c.is_some.ensures ∙ c.if-is_some.true)

pub returns : goal.returns
returns c = none_of c.args.refusals.now c.loop-refusal.refusal-index c.loop-refusal-test.false c.loop-refusal.invariant
