use Rattle.std.proofs.Common.{ap, ◌∙◌, drop, ◌+◌}
use Rattle.std.specs.Prelude.{flat_map, option_map}
use Rattle.elab_plain.specs.vl_flat.specs.Surface as x
use Rattle.vl_design.specs.Stops.{earliest}
use Rattle.elab_plain.specs.vl_flat.specs.Expressions.{steps, memory_of}
use Rattle.elab_plain.specs.vl_flat.specs.ExpressionFaults.{direction}
use Rattle.elab_plain.specs.Seen.{selects_before}
use Rattle.elab_constant.specs.Seen.{seen_scope, binding_of}
use Rattle.elab_constant.specs.Types.{numbers}
use Rattle.vl_design.proofs.Earliest.{step-left, finish}
use Rattle.elab_faults.proofs.Turning.{no-steps}
use Rattle.elab_faults.proofs.directions.directions.Goals as goal

pub loop-one-preserved : goal.loop-one-preserved
loop-one-preserved c =
    let s = seen_scope c.args.scope.now in
    let now = c.loop-one.all in
    let next = c.one_direction-all.result in
    step-left (λ z. selects_before z x.NoSelects) (λ z. flat_map (direction s c.args.at) (steps s now.memory (numbers now.range) z)) (λ z. flat_map (direction s c.args.at) (steps s next.memory (numbers next.range) z))
    c.args.selects.now c.loop-one.one-index c.one-item.result now.best next.best _
    c.loop-one-test.true c.one-item.is (c.one_direction-all.ensures (selects_before (drop (c.loop-one.one-index + 1) c.args.selects.now) x.NoSelects)) c.loop-one.invariant

pub returns : goal.returns
returns c =
    let s = seen_scope c.args.scope.now in
    let now = c.loop-one.all in
    let ss = selects_before c.args.selects.now x.NoSelects in
    let o = option_map binding_of c.args.known in
    finish (λ z. flat_map (direction s c.args.at) (steps s now.memory (numbers now.range) (selects_before z x.NoSelects))) (no-steps s c.args.at now.memory (numbers now.range)) c.args.selects.now c.loop-one.one-index now.best _
    c.loop-one-test.false c.loop-one.invariant
    ∙ (ap (λ k. earliest c.args.best (flat_map (direction s c.args.at) (steps s k (numbers c.range_of.result) ss))) c.memory_of.ensures
    ∙ ap (λ r. earliest c.args.best (flat_map (direction s c.args.at) (steps s (memory_of o) r ss))) c.range_of.ensures)
