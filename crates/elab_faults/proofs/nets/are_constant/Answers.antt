use Rattle.std.proofs.Common.{refl, [], ◌∷◌}
use Rattle.elab_plain.specs.vl_flat.specs.Surface as x
use Rattle.elab_plain.specs.vl_flat.specs.Connections.{are_constant}
use Rattle.elab_plain.specs.Seen.{selects_before}
use Rattle.elab_constant.specs.Seen.{seen_scope}
use Rattle.elab_faults.proofs.Constants.{test-step, test-finish, first-select}
use Rattle.elab_faults.proofs.nets.are_constant.Goals as goal

pub loop-one-preserved : goal.loop-one-preserved
loop-one-preserved c =
    let n = (seen_scope c.args.scope.now).names in
    test-step (λ z. are_constant n (selects_before z x.NoSelects)) (λ y. are_constant n (selects_before (y ∷ []) x.NoSelects)) (first-select n) c.args.selects.now c.loop-one.one-index c.one-item.result
    c.loop-one.all c.is_constant_select-holds.result c.both-next.result (are_constant n (selects_before c.args.selects.now x.NoSelects))
    c.loop-one-test.true c.one-item.is c.is_constant_select-holds.ensures c.both-next.ensures c.loop-one.invariant

pub returns : goal.returns
returns c =
    let n = (seen_scope c.args.scope.now).names in
    test-finish (λ z. are_constant n (selects_before z x.NoSelects)) refl c.args.selects.now c.loop-one.one-index c.loop-one.all (are_constant n (selects_before c.args.selects.now x.NoSelects))
    c.loop-one-test.false c.loop-one.invariant
