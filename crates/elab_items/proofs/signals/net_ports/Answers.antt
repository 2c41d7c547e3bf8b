use Rattle.std.proofs.Common.{ap, ◌∙◌, map, Some}
use Rattle.std.proofs.lemmas.List.{take_all}
use Rattle.elab_plain.specs.vl_flat.specs.Declarations as f
use Rattle.elab_plain.specs.SeenItems.{seen_declared}
use Rattle.elab_items.proofs.Mapped.{both-more}
use Rattle.elab_items.proofs.signals.net_ports.Goals as goal

pub loop-n-preserved : goal.loop-n-preserved
loop-n-preserved c = λ type.
    ap (map (seen_declared type)) c.in_ok-push.ensures.items
    ∙ both-more (seen_declared type) (f.net (Some c.args.direction) type) c.loop-n.all.items c.in_ok-net_port.field-0 c.args.names.now c.loop-n.n-index c.n-item.result
    (c.loop-n.invariant type) c.loop-n-test.true c.n-item.is (c.in_ok-net_port.ensures type)

pub returns : goal.returns
returns c = λ type. c.loop-n.invariant type ∙ ap (map (f.net (Some c.args.direction) type)) (take_all c.loop-n.n-index c.args.names.now c.loop-n-test.false)
