use Rattle.std.proofs.Common.{[], sym, ap, ◌∙◌}
use Rattle.vl_scope.specs.Faults.{earliest, each_after}
use Rattle.vl_scope.proofs.Orders.{earliest-append}
use Rattle.vl_names.specs.HierarchyFaults.{top_fault, no_top_faults, top_faults}
use Rattle.vl_names.specs.Walks.{is_unmarked}
use Rattle.vl_names.proofs.tops.note_unmarked.Goals as goal

pub returns : goal.returns
returns c =
    let top = is_unmarked c.args.marks.now in
    let ms = c.args.modules.now in
    let first = c.first_unmarked-first.result in
    c.note_no_top.ensures
    ∙ ap (λ b. earliest b (no_top_faults first ms)) c.in_ok-best.ensures
    ∙ sym (earliest-append c.args.best (each_after (top_fault top first) [] ms) (no_top_faults first ms))
    ∙ ap (λ o. earliest c.args.best (top_faults top o ms)) c.first_unmarked-first.ensures.first
