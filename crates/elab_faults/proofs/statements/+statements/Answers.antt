use Rattle.std.proofs.Common.{map, drop, refl, ap, ◌∙◌, sym, ◌+◌, ◌++◌}
use Rattle.elab_plain.specs.vl_flat.specs.Surface as x
use Rattle.vl_design.specs.Stops.{earliest}
use Rattle.elab_plain.specs.vl_flat.specs.ExpressionFaults.{faults, all_faults, task_faults}
use Rattle.elab_plain.specs.vl_flat.specs.Statements.{set_faults, statement_faults, statements_faults, items_faults}
use Rattle.elab_plain.specs.Seen.{seen, args_before}
use Rattle.elab_plain.specs.Listed.{of_list}
use Rattle.elab_plain.specs.SeenStatements.{seen_left, seen_statement, statements_of, item, items_before}
use Rattle.elab_plain.proofs.StatementTrees.{row_statements-hidden, row_items-hidden}
use Rattle.elab_constant.specs.Seen.{seen_scope}
use Rattle.vl_design.proofs.Earliest.{over, chain, chain-three, step, step-left, finish}
use Rattle.elab_faults.proofs.statements.+statements.Goals as goal

pub statement_faults-returns-in-Block : goal.statement_faults-returns-in-Block
statement_faults-returns-in-Block t c =
    let s = seen_scope c.args.scope.now in
    c.statements_faults.ensures
    ∙ (ap (λ z. earliest c.args.best (statements_faults s (statements_of (map seen_statement z)))) c.as_slice.ensures.value
    ∙ sym (ap (λ z. earliest c.args.best (statement_faults s z)) (ap seen_statement c.in-Block.is ∙ ap (x.Block c.in-Block.field-0) (row_statements-hidden c.in-Block.parts))))

pub statement_faults-returns-in-If : goal.statement_faults-returns-in-If
statement_faults-returns-in-If t c =
    let s = seen_scope c.args.scope.now in
    let tested = c.faults-tested.result in
    let first = c.statement_faults-first.result in
    chain-three c.args.best tested first c.statement_faults.result (faults s (seen c.in-If.test)) (statement_faults s (seen_statement c.in-If.chosen.value)) (statement_faults s (seen_statement c.in-If.other.value))
    c.faults-tested.ensures
    (c.statement_faults-first.ensures ∙ ap (λ z. earliest tested (statement_faults s (seen_statement z))) c.deref.ensures)
    (c.statement_faults.ensures ∙ ap (λ z. earliest first (statement_faults s (seen_statement z))) c.deref-in-If.ensures)
    ∙ sym (ap (λ z. earliest c.args.best (statement_faults s (seen_statement z))) c.in-If.is)

pub statement_faults-returns-in-Case : goal.statement_faults-returns-in-Case
statement_faults-returns-in-Case t c =
    let s = seen_scope c.args.scope.now in
    let tested = c.faults-tested-in-Case.result in
    chain c.args.best tested c.items_faults.result (faults s (seen c.in-Case.subject)) (items_faults s (items_before c.in-Case.items.items x.NoItems))
    c.faults-tested-in-Case.ensures
    (c.items_faults.ensures ∙ ap (λ z. earliest tested (items_faults s (items_before z x.NoItems))) c.as_slice-in-Case.ensures.value)
    ∙ sym (ap (λ z. earliest c.args.best (statement_faults s z)) (ap seen_statement c.in-Case.is ∙ ap (x.Case c.in-Case.field-0 c.in-Case.field-1 (seen c.in-Case.subject)) (row_items-hidden c.in-Case.items)))

pub statement_faults-returns-in-For : goal.statement_faults-returns-in-For
statement_faults-returns-in-For t c =
    let s = seen_scope c.args.scope.now in
    let start = set_faults s (seen_left c.in-For.target) (seen c.in-For.start) in
    let step' = set_faults s (seen_left c.in-For.stepped) (seen c.in-For.step) in
    let body = statement_faults s (seen_statement c.in-For.body.value) in
    chain c.args.best c.set_faults-begun.result c.statement_faults-in-For.result start (faults s (seen c.in-For.test) ++ (step' ++ body))
    c.set_faults-begun.ensures
    (chain-three c.set_faults-begun.result c.faults-tested-in-For.result c.set_faults-gone.result c.statement_faults-in-For.result (faults s (seen c.in-For.test)) step' body
    c.faults-tested-in-For.ensures c.set_faults-gone.ensures
    (c.statement_faults-in-For.ensures ∙ ap (λ z. earliest c.set_faults-gone.result (statement_faults s (seen_statement z))) c.deref-in-For.ensures))
    ∙ sym (ap (λ z. earliest c.args.best (statement_faults s (seen_statement z))) c.in-For.is)

pub statement_faults-returns-in-Repeat : goal.statement_faults-returns-in-Repeat
statement_faults-returns-in-Repeat t c =
    let s = seen_scope c.args.scope.now in
    let counted = c.faults-counted.result in
    chain c.args.best counted c.statement_faults-in-Repeat.result (faults s (seen c.in-Repeat.count)) (statement_faults s (seen_statement c.in-Repeat.body.value))
    c.faults-counted.ensures
    (c.statement_faults-in-Repeat.ensures ∙ ap (λ z. earliest counted (statement_faults s (seen_statement z))) c.deref-in-Repeat.ensures)
    ∙ sym (ap (λ z. earliest c.args.best (statement_faults s (seen_statement z))) c.in-Repeat.is)

pub statement_faults-returns-in-Assign : goal.statement_faults-returns-in-Assign
statement_faults-returns-in-Assign t c =
    let s = seen_scope c.args.scope.now in
    c.set_faults.ensures ∙ sym (ap (λ z. earliest c.args.best (statement_faults s (seen_statement z))) c.in-Assign.is)

pub statement_faults-returns-in-Task : goal.statement_faults-returns-in-Task
statement_faults-returns-in-Task t c =
    let s = seen_scope c.args.scope.now in
    c.task_faults.ensures
    ∙ (ap (λ n. earliest c.args.best (task_faults s n (args_before c.as_slice-in-Task-2.result.now x.NoArgs))) c.as_slice-in-Task.ensures
    ∙ (ap (λ g. earliest c.args.best (task_faults s c.in-Task.name (args_before g x.NoArgs))) c.as_slice-in-Task-2.ensures.value
    ∙ sym (ap (λ z. earliest c.args.best (statement_faults s (seen_statement z))) c.in-Task.is)))

pub statements_faults-loop-a-preserved : goal.statements_faults-loop-a-preserved
statements_faults-loop-a-preserved t c =
    let s = seen_scope c.args.scope.now in
    step (λ z. statements_faults s (statements_of (map seen_statement z))) (λ a. statement_faults s (seen_statement a)) (λ y ys. refl) c.args.parts.now c.loop-a.a-index c.a-item.result c.loop-a.all c.statement_faults-all.result
    (earliest c.args.best (statements_faults s (statements_of (map seen_statement c.args.parts.now)))) c.loop-a-test.true c.a-item.is c.statement_faults-all.ensures c.loop-a.invariant

pub statements_faults-returns : goal.statements_faults-returns
statements_faults-returns t c =
    let s = seen_scope c.args.scope.now in
    finish (λ z. statements_faults s (statements_of (map seen_statement z))) refl c.args.parts.now c.loop-a.a-index c.loop-a.all
    (earliest c.args.best (statements_faults s (statements_of (map seen_statement c.args.parts.now)))) c.loop-a-test.false c.loop-a.invariant

pub items_faults-loop-a-preserved : goal.items_faults-loop-a-preserved
items_faults-loop-a-preserved t c =
    let s = seen_scope c.args.scope.now in
    step-left (λ z. items_before z x.NoItems) (items_faults s) (items_faults s) c.args.items.now c.loop-a.a-index c.a-item.result c.loop-a.all c.item_faults-all.result
    (earliest c.args.best (items_faults s (items_before c.args.items.now x.NoItems)))
    c.loop-a-test.true c.a-item.is (c.item_faults-all.ensures (items_before (drop (c.loop-a.a-index + 1) c.args.items.now) x.NoItems)) c.loop-a.invariant

pub items_faults-returns : goal.items_faults-returns
items_faults-returns t c =
    let s = seen_scope c.args.scope.now in
    finish (λ z. items_faults s (items_before z x.NoItems)) refl c.args.items.now c.loop-a.a-index c.loop-a.all
    (earliest c.args.best (items_faults s (items_before c.args.items.now x.NoItems))) c.loop-a-test.false c.loop-a.invariant

pub item_faults-returns-in-Labelled : goal.item_faults-returns-in-Labelled
item_faults-returns-in-Labelled t c = λ others.
    let s = seen_scope c.args.scope.now in
    let labels = all_faults s (of_list (map seen c.in-Labelled.labels.items)) in
    let body = statement_faults s (seen_statement c.in-Labelled.body) in
    over c.all_faults-labelled.result c.statement_faults.result body (items_faults s others) c.statement_faults.ensures
    ∙ (over c.args.best c.all_faults-labelled.result labels (body ++ items_faults s others) (c.all_faults-labelled.ensures ∙ ap (λ z. earliest c.args.best (all_faults s (of_list (map seen z)))) c.as_slice.ensures.value)
    ∙ sym (ap (λ z. earliest c.args.best (items_faults s (item z others))) c.in-Labelled.is))

pub item_faults-returns-in-Default : goal.item_faults-returns-in-Default
item_faults-returns-in-Default t c = λ others.
    let s = seen_scope c.args.scope.now in
    over c.args.best c.statement_faults-in-Default.result (statement_faults s (seen_statement c.in-Default.body)) (items_faults s others) c.statement_faults-in-Default.ensures
    ∙ sym (ap (λ z. earliest c.args.best (items_faults s (item z others))) c.in-Default.is)
