use Rattle.std.proofs.Common.{refl}
use Rattle.vl_design.specs.Seen.{stm_of, stms_of}
use Rattle.vl_design.specs.declared.design.CaseItem.{CaseItem}
use Rattle.cell_emit.specs.vl_sites.specs.Lists.{items_of}
use Rattle.cell_states.specs.Marks.{stm_signals, stms_signals, items_signals}
use Rattle.cell_states.proofs.Marking.{step-more}
use Rattle.cell_states.proofs.delays.+statements.Goals as goal

pub cases-loop-item-preserved : goal.cases-loop-item-preserved
cases-loop-item-preserved t c =
    step-more (λ xs. items_signals (items_of xs)) (λ (x : CaseItem). stm_signals (stm_of x.body)) c.args.items.now c.loop-item.item-index c.item-item.result c.args.marks.now.items c.loop-item.marks.items c.statement.new.marks.items
    (λ y ys. refl) c.loop-item-test.true c.item-item.is c.statement.ensures c.loop-item.invariant

pub statements-loop-a-preserved : goal.statements-loop-a-preserved
statements-loop-a-preserved t c =
    step-more (λ xs. stms_signals (stms_of xs)) (λ x. stm_signals (stm_of x)) c.args.list.now c.loop-a.a-index c.a-item.result c.args.marks.now.items c.loop-a.marks.items c.statement.new.marks.items (λ y ys. refl)
    c.loop-a-test.true c.a-item.is c.statement.ensures c.loop-a.invariant
