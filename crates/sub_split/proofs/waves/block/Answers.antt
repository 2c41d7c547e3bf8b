use Rattle.std.proofs.Common.{◌∙◌}
use Rattle.std.proofs.lemmas.Result.{IfOk-weaker}
use Rattle.std.specs.Vec.Iter.{into_iter_items}
use Rattle.sub_split.proofs.Waving.{block-taken}
use Rattle.sub_split.proofs.waves.block.Goals as goal

pub returns : goal.returns
returns c =
    IfOk-weaker c.split.result _ _
    (λ h k. block-taken c.args.wave c.args.process.now c.args.nodes.now c.split.new.nodes c.args.head h c.belongs.result (into_iter_items c.into_iter-left.result) _ c.belongs.ensures c.if-not-belongs.false
    (c.into_iter-left.ensures.rest ∙ c.in_ok-marks.ensures) k)
    c.split.ensures
