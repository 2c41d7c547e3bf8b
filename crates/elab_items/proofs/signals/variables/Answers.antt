use Rattle.std.proofs.Common.{ap, ◌∙◌, map}
use Rattle.std.proofs.lemmas.List.{take_all}
use Rattle.elab_plain.specs.vl_flat.specs.Declarations as f
use Rattle.elab_plain.specs.SeenItems.{seen_declared}
use Rattle.elab_items.proofs.Mapped.{both-more}
use Rattle.elab_items.proofs.signals.variables.Goals as goal

pub loop-a-preserved : goal.loop-a-preserved
loop-a-preserved c = λ type.
    ap (map (seen_declared type)) c.in_ok-push.ensures.items
    ∙ both-more (seen_declared type) (f.variable type) c.loop-a.all.items c.in_ok-variable.field-0 c.args.declared.now c.loop-a.a-index c.a-item.result
    (c.loop-a.invariant type) c.loop-a-test.true c.a-item.is (c.in_ok-variable.ensures type)

pub returns : goal.returns
returns c = λ type. c.loop-a.invariant type ∙ ap (map (f.variable type)) (take_all c.loop-a.a-index c.args.declared.now c.loop-a-test.false)
