use Rattle.std.proofs.Common.{ap, ◌∙◌, sym}
use Rattle.vl_design.specs.Stops.{earliest}
use Rattle.elab_plain.specs.vl_flat.specs.ExpressionFaults.{faults, display_faults}
use Rattle.elab_plain.specs.Seen.{seen}
use Rattle.elab_constant.specs.Seen.{seen_scope}
use Rattle.vl_design.proofs.Earliest.{over}
use Rattle.elab_faults.proofs.Selected.{shown-text, shown-other}
use Rattle.elab_faults.proofs.displays.shown_alone.Goals as goal

pub returns-then-is_text : goal.returns-then-is_text
returns-then-is_text c = λ others.
    let s = seen_scope c.args.scope.now in
    ap (λ n. earliest c.args.best (display_faults s n others)) c.taken_by.ensures
    ∙ sym (ap (earliest c.args.best) (shown-text s (seen c.args.e.now) others (sym c.is_text.ensures ∙ c.if-is_text.true)))

pub returns-else-is_text : goal.returns-else-is_text
returns-else-is_text c = λ others.
    let s = seen_scope c.args.scope.now in
    over c.args.best c.faults.result (faults s (seen c.args.e.now)) (display_faults s 0 others) c.faults.ensures
    ∙ sym (ap (earliest c.args.best) (shown-other s (seen c.args.e.now) others (sym c.is_text.ensures ∙ c.if-is_text.false)))
