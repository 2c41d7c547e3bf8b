use Rattle.std.proofs.Common.{drop, ◌+◌}
use Rattle.elab_plain.specs.vl_flat.specs.Surface as x
use Rattle.vl_design.specs.Stops.{earliest}
use Rattle.elab_plain.specs.vl_flat.specs.ExpressionFaults.{display_faults}
use Rattle.elab_plain.specs.Seen.{args_before}
use Rattle.elab_constant.specs.Seen.{seen_scope}
use Rattle.vl_design.proofs.Earliest.{step-left, finish}
use Rattle.elab_faults.proofs.Selected.{shown-none}
use Rattle.elab_faults.proofs.displays.display_faults.Goals as goal

pub loop-a-preserved : goal.loop-a-preserved
loop-a-preserved c =
    let s = seen_scope c.args.scope.now in
    let now = c.loop-a.all in
    let next = c.shown-all.result in
    step-left (λ z. args_before z x.NoArgs) (display_faults s now.taken) (display_faults s next.taken) c.args.given.now c.loop-a.a-index c.a-item.result now.best next.best
    (earliest c.args.best (display_faults s 0 (args_before c.args.given.now x.NoArgs)))
    c.loop-a-test.true c.a-item.is (c.shown-all.ensures (args_before (drop (c.loop-a.a-index + 1) c.args.given.now) x.NoArgs)) c.loop-a.invariant

pub returns : goal.returns
returns c =
    let s = seen_scope c.args.scope.now in
    let now = c.loop-a.all in
    finish (λ z. display_faults s now.taken (args_before z x.NoArgs)) (shown-none s now.taken) c.args.given.now c.loop-a.a-index now.best
    (earliest c.args.best (display_faults s 0 (args_before c.args.given.now x.NoArgs)))
    c.loop-a-test.false c.loop-a.invariant
