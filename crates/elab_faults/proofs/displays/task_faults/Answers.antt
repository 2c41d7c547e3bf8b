use Rattle.std.proofs.Common.{ap, ◌∙◌, sym}
use Rattle.std.specs.Prelude.{if◌then◌else◌}
use Rattle.elab_plain.specs.vl_flat.specs.Surface as x
use Rattle.vl_design.specs.Stops.{earliest}
use Rattle.elab_plain.specs.vl_flat.specs.Expressions.{keeps_texts}
use Rattle.elab_plain.specs.vl_flat.specs.ExpressionFaults.{display_faults, args_faults}
use Rattle.elab_plain.specs.Seen.{args_before}
use Rattle.elab_constant.specs.Seen.{seen_scope}
use Rattle.elab_faults.proofs.displays.task_faults.Goals as goal

pub returns-then-is_display : goal.returns-then-is_display
returns-then-is_display c =
    let s = seen_scope c.args.scope.now in
    let given = args_before c.args.given.now x.NoArgs in
    c.display_faults.ensures
    ∙ sym (ap (λ b. earliest c.args.best (if b then display_faults s 0 given else args_faults s (keeps_texts c.args.name.now) given)) (sym c.is_display.ensures ∙ c.if-is_display.true))

pub returns-else-is_display : goal.returns-else-is_display
returns-else-is_display c =
    let s = seen_scope c.args.scope.now in
    let given = args_before c.args.given.now x.NoArgs in
    c.args_faults.ensures
    ∙ (ap (λ k. earliest c.args.best (args_faults s k given)) c.keeps_texts.ensures
    ∙ sym (ap (λ b. earliest c.args.best (if b then display_faults s 0 given else args_faults s (keeps_texts c.args.name.now) given)) (sym c.is_display.ensures ∙ c.if-is_display.false)))
