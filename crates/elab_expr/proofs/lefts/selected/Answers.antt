use Rattle.std.proofs.Common.{ap, ◌∙◌, sym, drop, ◌+◌}
use Rattle.elab_plain.specs.vl_flat.specs.Surface as x
use Rattle.elab_expr.specs.Walked as n
use Rattle.vl_design.specs.Seen.{target_of}
use Rattle.elab_plain.specs.Seen.{selects_before}
use Rattle.elab_constant.specs.Seen.{seen_scope}
use Rattle.elab_constant.specs.Types.{numbers}
use Rattle.elab_expr.proofs.Lists.{selects-step, selects-end}
use Rattle.elab_expr.proofs.lefts.selected.Goals as goal

pub loop-one-preserved : goal.loop-one-preserved
loop-one-preserved c =
    let s = seen_scope c.args.scope.now in
    c.in_ok-all.ensures (selects_before (drop (c.loop-one.one-index + 1) c.args.selects.now) x.NoSelects)
    ∙ (sym (ap (n.selected s c.args.at (numbers c.loop-one.all.range) (target_of c.loop-one.all.base)) (selects-step c.args.selects.now c.loop-one.one-index c.one-item.result x.NoSelects c.loop-one-test.true c.one-item.is))
    ∙ c.loop-one.invariant)

pub returns : goal.returns
returns c =
    let s = seen_scope c.args.scope.now in
    sym (ap (n.selected s c.args.at (numbers c.loop-one.all.range) (target_of c.loop-one.all.base)) (selects-end c.args.selects.now c.loop-one.one-index x.NoSelects c.loop-one-test.false))
    ∙ c.loop-one.invariant
