use Rattle.std.proofs.Common.{◌<◌, length, not, ◌&&◌, ◌||◌, ap, ◌∙◌, arith}
use Rattle.vl_scope.specs.Faults.{earliest, fault_if}
use Rattle.vl_names.specs.HierarchyFaults.{is_number}
use Rattle.vl_names.specs.Modules.{has_one_input}
use Rattle.vl_names.specs.Walks.{is_unmarked}
use Rattle.vl_names.proofs.Steps.{numbered-turn}
use Rattle.vl_names.proofs.tops.note_tops.Goals as goal

pub loop-node-preserved : goal.loop-node-preserved
loop-node-preserved c =
    let ms = c.args.modules.now in
    let m = c.index-modules-node.result in
    let best = c.loop-node.best in
    let node = c.loop-node.node in
    let below : node < length ms = omega arith in
    numbered-turn (λ k m. fault_if (is_unmarked c.args.marks.now k && (not (is_number c.args.first k) || not (has_one_input m))) m.name.place 6) ms node m c.args.best best c.in_ok-best.best below c.index-modules-node.is
    (c.in_ok-best.ensures
    ∙ ap (λ b. earliest best (fault_if (b && (not c.is_number.result || not (has_one_input m))) m.name.place 6)) c.is_unmarked.ensures
    ∙ ap (λ b. earliest best (fault_if (is_unmarked c.args.marks.now node && (not b || not (has_one_input m))) m.name.place 6)) c.is_number.ensures)
    c.loop-node.invariant
