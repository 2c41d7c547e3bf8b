use Rattle.std.proofs.Common.{ap, ◌∙◌, sym}
use Rattle.vl_design.specs.Stops.{earliest}
use Rattle.elab_plain.specs.vl_flat.specs.ExpressionFaults.{display_faults}
use Rattle.elab_plain.specs.Seen.{argument}
use Rattle.elab_constant.specs.Seen.{seen_scope}
use Rattle.elab_faults.proofs.Selected.{shown-null}
use Rattle.elab_faults.proofs.displays.shown.Goals as goal

pub returns-in-Null : goal.returns-in-Null
returns-in-Null c = λ others.
    let s = seen_scope c.args.scope.now in
    let from = c.args.from in
    ap (λ b. earliest b (display_faults s c.shown_null.result.taken others)) c.shown_null.ensures.best
    ∙ (ap (λ n. earliest from.best (display_faults s n others)) c.shown_null.ensures.taken
    ∙ (sym (ap (earliest from.best) (shown-null s from.taken others))
    ∙ sym (ap (λ z. earliest from.best (display_faults s from.taken (argument z others))) c.in-Null.is)))

pub returns-in-Value : goal.returns-in-Value
returns-in-Value c = λ others.
    let s = seen_scope c.args.scope.now in
    let from = c.args.from in
    c.shown_value.ensures others ∙ sym (ap (λ z. earliest from.best (display_faults s from.taken (argument z others))) c.in-Value.is)
