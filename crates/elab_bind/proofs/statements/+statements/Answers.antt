use Rattle.std.proofs.Common.{◌≡◌, map, ap, ◌∙◌, sym, subst, take}
use Rattle.std.specs.Prelude.{IfOk}
use Rattle.elab_plain.specs.declared.surface.CaseItem.TheBlock.{hidden-the_row-CaseItem-1}
use Rattle.elab_plain.specs.vl_flat.specs.Surface as x
use Rattle.elab_plain.specs.vl_flat.specs.Binding as f
use Rattle.elab_plain.specs.Seen.{seen}
use Rattle.elab_plain.specs.Listed.{of_list}
use Rattle.elab_plain.specs.SeenStatements.{statements_of, seen_statement, row_items, item, items_before, trees_before}
use Rattle.elab_plain.proofs.StatementTrees.{otherwise, block-statement, if-statement, case-statement, for-statement, repeat-statement, labels-item, default-item, row_statements-hidden, row_items-hidden, items-append, trees-more}
use Rattle.elab_bind.proofs.statements.+statements.Goals as goal

pub bind_items-loop-a-preserved : goal.bind_items-loop-a-preserved
bind_items-loop-a-preserved t c = λ o.
    ap (λ z. items_before z o) c.in_ok-push.ensures.items
    ∙ (items-append c.loop-a.all.items c.in_ok-bind_item.field-0 o
    ∙ (c.loop-a.invariant (item c.in_ok-bind_item.field-0 o)
    ∙ (ap (trees_before (take c.loop-a.a-index c.args.items.now)) (c.in_ok-bind_item.ensures o)
    ∙ sym (trees-more c.args.items.now c.loop-a.a-index c.a-item.result o c.loop-a-test.true c.a-item.is))))

pub bind_item-returns-in_ok-bind_statement-in-Labels : goal.bind_item-returns-in_ok-bind_statement-in-Labels
bind_item-returns-in_ok-bind_statement-in-Labels t c = λ o.
    ap (λ z. x.Labelled (of_list z) (seen_statement c.in_ok-bind_statement-in-Labels.field-0) o) (c.in_ok-labels-in-Labels.ensures ∙ ap (map f.ex) c.as_slice.ensures)
    ∙ (ap (λ z. x.Labelled (of_list (map f.ex c.in-Labels.labels)) z o) (c.in_ok-bind_statement-in-Labels.ensures ∙ ap f.statement c.get.ensures)
    ∙ sym (ap (λ z. f.case_item z o) c.in-Labels.is ∙ labels-item c.in-Labels.field-0 c.in-Labels.labels c.in-Labels.body o))

pub bind_item-returns-in_ok-bind_statement-in-Default : goal.bind_item-returns-in_ok-bind_statement-in-Default
bind_item-returns-in_ok-bind_statement-in-Default t c = λ o.
    ap (λ z. x.Default z o) (c.in_ok-bind_statement-in-Default.ensures ∙ ap f.statement c.get-in-Default.ensures)
    ∙ sym (ap (λ z. f.case_item z o) c.in-Default.is ∙ default-item c.in-Default.field-0 c.in-Default.body o)

pub bind_statement-returns-in_ok-bind_statements-in-Block : goal.bind_statement-returns-in_ok-bind_statements-in-Block
bind_statement-returns-in_ok-bind_statements-in-Block t c =
    ap (x.Block c.in-Block.at) (row_statements-hidden c.in_ok-bind_statements-in-Block.field-0 ∙ ap statements_of (c.in_ok-bind_statements-in-Block.ensures ∙ ap (map f.statement) c.as_slice.ensures))
    ∙ sym (ap f.statement c.in-Block.is ∙ block-statement c.in-Block.at c.in-Block.parts)

pub bind_statement-returns-in_ok-none-in-None : goal.bind_statement-returns-in_ok-none-in-None
bind_statement-returns-in_ok-none-in-None t c =
    let P : x.Statement → Type 0 = λ z. IfOk c.bind_if.result (λ b. seen_statement b ≡ z) in
    subst P
    (ap (λ z. x.If c.in-If.at (f.ex c.in-If.test) z (seen_statement c.in_ok-none-in-None.none.value)) (ap seen_statement c.in_ok-chosen-in-If.ensures.ok ∙ (c.in_ok-bind_statement-in-If.ensures ∙ ap f.statement c.get.ensures))
    ∙ (ap (λ z. x.If c.in-If.at (f.ex c.in-If.test) (f.statement c.in-If.chosen) (seen_statement z)) c.in_ok-none-in-None.ensures.ok
    ∙ sym (ap f.statement c.in-If.is ∙ (if-statement c.in-If.at c.in-If.test c.in-If.chosen c.in-If.otherwise
    ∙ ap (λ z. x.If c.in-If.at (f.ex c.in-If.test) (f.statement c.in-If.chosen) (otherwise z c.in-If.at)) c.in-None.is))))
    c.bind_if.ensures

pub bind_statement-returns-in_ok-other-in-Some : goal.bind_statement-returns-in_ok-other-in-Some
bind_statement-returns-in_ok-other-in-Some t c =
    let P : x.Statement → Type 0 = λ z. IfOk c.bind_if-in-Some.result (λ b. seen_statement b ≡ z) in
    subst P
    (ap (λ z. x.If c.in-If.at (f.ex c.in-If.test) z (seen_statement c.in_ok-other-in-Some.other.value)) (ap seen_statement c.in_ok-chosen-in-If.ensures.ok ∙ (c.in_ok-bind_statement-in-If.ensures ∙ ap f.statement c.get.ensures))
    ∙ (ap (x.If c.in-If.at (f.ex c.in-If.test) (f.statement c.in-If.chosen)) (ap seen_statement c.in_ok-other-in-Some.ensures.ok ∙ (c.in_ok-bind_statement-in-Some.ensures ∙ ap f.statement c.get-in-Some.ensures))
    ∙ sym (ap f.statement c.in-If.is ∙ (if-statement c.in-If.at c.in-If.test c.in-If.chosen c.in-If.otherwise
    ∙ ap (λ z. x.If c.in-If.at (f.ex c.in-If.test) (f.statement c.in-If.chosen) (otherwise z c.in-If.at)) c.in-Some.is))))
    c.bind_if-in-Some.ensures

pub bind_statement-returns-in_ok-bind_items-in-Case : goal.bind_statement-returns-in_ok-bind_items-in-Case
bind_statement-returns-in_ok-bind_items-in-Case t c =
    let items = row_items (hidden-the_row-CaseItem-1 c.in_ok-bind_items-in-Case.field-0) in
    (ap (λ z. x.Case c.in-Case.at z (seen c.in_ok-subject-in-Case.subject) items) c.wild_of-wild.ensures
    ∙ (ap (λ z. x.Case c.in-Case.at (f.is_wild c.in-Case.word) z items) c.in_ok-subject-in-Case.ensures
    ∙ ap (x.Case c.in-Case.at (f.is_wild c.in-Case.word) (f.ex c.in-Case.subject))
    (row_items-hidden c.in_ok-bind_items-in-Case.field-0 ∙ (c.in_ok-bind_items-in-Case.ensures x.NoItems ∙ ap (λ z. trees_before z x.NoItems) c.as_slice-in-Case.ensures))))
    ∙ sym (ap f.statement c.in-Case.is ∙ case-statement c.in-Case.at c.in-Case.word c.in-Case.subject c.in-Case.items)

pub bind_statement-returns-in_ok-body-in-For : goal.bind_statement-returns-in_ok-body-in-For
bind_statement-returns-in_ok-body-in-For t c =
    let P : x.Statement → Type 0 = λ z. IfOk c.bind_for.result (λ b. seen_statement b ≡ z) in
    subst P
    (ap (x.For c.in-For.at (f.left c.in-For.start.target) (f.ex c.in-For.start.value) (f.ex c.in-For.test) (f.left c.in-For.step.target) (f.ex c.in-For.step.value)) (ap seen_statement c.in_ok-body-in-For.ensures.ok ∙ (c.in_ok-bind_statement-in-For.ensures ∙ ap f.statement c.get-in-For.ensures))
    ∙ sym (ap f.statement c.in-For.is ∙ for-statement c.in-For.at c.in-For.start c.in-For.test c.in-For.step c.in-For.body))
    c.bind_for.ensures

pub bind_statement-returns-in_ok-count-in-Repeat : goal.bind_statement-returns-in_ok-count-in-Repeat
bind_statement-returns-in_ok-count-in-Repeat t c =
    (ap (λ z. x.Repeat c.in-Repeat.at z (seen_statement c.in_ok-body-in-Repeat.body.value)) c.in_ok-count-in-Repeat.ensures
    ∙ ap (x.Repeat c.in-Repeat.at (f.ex c.in-Repeat.count)) (ap seen_statement c.in_ok-body-in-Repeat.ensures.ok ∙ (c.in_ok-bind_statement-in-Repeat.ensures ∙ ap f.statement c.get-in-Repeat.ensures)))
    ∙ sym (ap f.statement c.in-Repeat.is ∙ repeat-statement c.in-Repeat.at c.in-Repeat.count c.in-Repeat.body)
