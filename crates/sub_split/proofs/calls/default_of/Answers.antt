use Rattle.std.proofs.Common.{sym, ◌∙◌}
use Rattle.vl_design.specs.Acts.{default_body}
use Rattle.sub_split.specs.Items.{items_of}
use Rattle.sub_split.proofs.Trees.{default-found, default-passed}
use Rattle.sub_split.proofs.calls.default_of.Goals as goal

pub returns-then-is_default-clause-body : goal.returns-then-is_default-clause-body
returns-then-is_default-clause-body c = λ path.
    default-found path c.args.items.now c.loop-number.number c.index-items-number.result c.loop-number-test.true c.index-items-number.is (sym c.is_default.ensures ∙ c.if-is_default.true) (c.loop-number.invariant path)

pub loop-number-preserved : goal.loop-number-preserved
loop-number-preserved c = λ path.
    default-passed path (default_body (items_of path c.args.items.now)) c.args.items.now c.loop-number.number c.index-items-number.result c.loop-number-test.true c.index-items-number.is (sym c.is_default.ensures ∙ c.if-is_default.false) (c.loop-number.invariant path)
