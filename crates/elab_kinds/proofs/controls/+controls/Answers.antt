use Rattle.std.proofs.Common.{sym}
use Rattle.std.specs.List.{list_any}
use Rattle.elab_kinds.specs.Names.{has}
use Rattle.elab_kinds.specs.Parts.{controls_in, case_controls}
use Rattle.elab_kinds.proofs.Adding.{ends-one}
use Rattle.elab_kinds.proofs.Trees.{block-controls, case-controls}
use Rattle.elab_kinds.proofs.controls.+controls.Goals as goal

pub add_controls-returns-in-Block : goal.add_controls-returns-in-Block
add_controls-returns-in-Block t c =
    ends-one c.add_all_controls.result c.args.names.now c.add_all_controls.new.names (has c.args.hidden.now) (λ s as'. list_any (controls_in s) as') controls_in c.as_slice.ensures.value c.in-Block.is
    (λ s. sym (block-controls s c.in-Block.field-0 c.in-Block.parts)) c.add_all_controls.ensures

pub add_controls-returns-in-Case : goal.add_controls-returns-in-Case
add_controls-returns-in-Case t c =
    ends-one c.add_case_controls.result c.args.names.now c.add_case_controls.new.names (has c.args.hidden.now) (λ s as'. list_any (case_controls s) as') controls_in c.as_slice-in-Case.ensures.value c.in-Case.is
    (λ s. sym (case-controls s c.in-Case.field-0 c.in-Case.field-1 c.in-Case.field-2 c.in-Case.items)) c.add_case_controls.ensures
