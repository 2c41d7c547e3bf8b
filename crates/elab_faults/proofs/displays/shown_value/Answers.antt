use Rattle.std.proofs.Common.{◌≤◌, ◌-◌, arith, ap, ◌∙◌, sym}
use Rattle.vl_design.specs.Stops.{earliest}
use Rattle.elab_plain.specs.vl_flat.specs.ExpressionFaults.{faults, display_faults}
use Rattle.elab_plain.specs.Seen.{seen}
use Rattle.elab_constant.specs.Seen.{seen_scope}
use Rattle.vl_design.proofs.Earliest.{over}
use Rattle.elab_faults.proofs.Selected.{shown-taken}
use Rattle.elab_faults.proofs.displays.shown_value.Goals as goal

pub returns : goal.returns
returns c = λ others.
    let s = seen_scope c.args.scope.now in
    let from = c.args.from in
    let h : 1 ≤ from.taken = omega (arith, c.if-from-eq0.false) in
    over from.best c.faults.result (faults s (seen c.args.e.now)) (display_faults s (from.taken - 1) others) c.faults.ensures
    ∙ sym (ap (earliest from.best) (shown-taken s from.taken (seen c.args.e.now) others h))
