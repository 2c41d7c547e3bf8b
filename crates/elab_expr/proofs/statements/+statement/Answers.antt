use Rattle.std.proofs.Common.{map, ap, ◌∙◌, sym}
use Rattle.vl_design.specs.declared.design.StmtNode.TheBlock.{hidden-the_row-CaseItem-1}
use Rattle.elab_plain.specs.vl_flat.specs.Surface as x
use Rattle.vl_design.specs.Placed as p
use Rattle.elab_plain.specs.vl_flat.specs.Expressions as flat
use Rattle.elab_plain.specs.vl_flat.specs.Statements as spec
use Rattle.vl_design.specs.Seen.{exps_of, stm_of, row_items}
use Rattle.elab_plain.specs.Seen.{seen}
use Rattle.elab_plain.specs.SeenStatements.{seen_statement, item, items_before}
use Rattle.elab_plain.specs.Listed.{of_list}
use Rattle.elab_constant.specs.Seen.{seen_scope}
use Rattle.elab_expr.specs.Walked as n
use Rattle.elab_expr.proofs.Bodies.{row-stms, items-hidden, block-seen, case-seen, labels-are, items-append, items-more}
use Rattle.elab_expr.proofs.statements.+statement.Goals as goal

pub case_items-loop-one-preserved : goal.case_items-loop-one-preserved
case_items-loop-one-preserved t c = λ o.
    let s = seen_scope c.args.scope.now in
    let w = c.args.wild in
    ap (λ z. n.items_with z (spec.case_items s w o)) c.in_ok-push.ensures.items
    ∙ (items-append c.loop-one.all.items c.in_ok-case_item.field-0 (spec.case_items s w o)
    ∙ (ap (n.items_with c.loop-one.all.items) (c.in_ok-case_item.ensures o)
    ∙ (c.loop-one.invariant (item c.one-item.result o)
    ∙ sym (ap (spec.case_items s w) (items-more c.args.items.now c.loop-one.one-index c.one-item.result o c.loop-one-test.true c.one-item.is)))))

pub statement-returns-in_ok-parts-in-Block : goal.statement-returns-in_ok-parts-in-Block
statement-returns-in_ok-parts-in-Block t c =
    let s = seen_scope c.args.scope.now in
    ap (p.Seq c.in-Block.at) (row-stms s c.in_ok-parts-in-Block.parts c.in-Block.parts.items (c.in_ok-parts-in-Block.ensures ∙ ap (map (n.seen_stm s)) c.as_slice.ensures.value))
    ∙ sym (ap (spec.statement s) (ap seen_statement c.in-Block.is ∙ block-seen c.in-Block.at c.in-Block.parts))

pub statement-returns-in_ok-subject-in-Case : goal.statement-returns-in_ok-subject-in-Case
statement-returns-in_ok-subject-in-Case t c =
    let s = seen_scope c.args.scope.now in
    let at = c.in-Case.at in
    let w = c.in-Case.wild in
    let e = flat.exp s (seen c.in-Case.subject) in
    (ap (λ z. p.Case at z (row_items (hidden-the_row-CaseItem-1 c.in_ok-items-in-Case.items)) w) c.in_ok-subject-in-Case.ensures
    ∙ ap (λ z. p.Case at e z w) (items-hidden c.in_ok-items-in-Case.items ∙ (c.in_ok-items-in-Case.ensures x.NoItems ∙ ap (λ z. spec.case_items s w (items_before z x.NoItems)) c.as_slice-in-Case.ensures.value)))
    ∙ sym (ap (spec.statement s) (ap seen_statement c.in-Case.is ∙ case-seen at w c.in-Case.subject c.in-Case.items))

pub case_item-returns-in_ok-body-in-Labelled : goal.case_item-returns-in_ok-body-in-Labelled
case_item-returns-in_ok-body-in-Labelled t c = λ o.
    let s = seen_scope c.args.scope.now in
    let w = c.args.wild in
    let rest = spec.case_items s w o in
    ap (λ z. p.MoreItems z (stm_of c.in_ok-body-in-Labelled.body) rest) (labels-are s w c.in_ok-labels-in-Labelled.labels.items c.in-Labelled.es.items (c.in_ok-labels-in-Labelled.ensures ∙ ap (map (n.seen_label s w)) c.as_slice.ensures.value))
    ∙ (ap (λ z. p.MoreItems (flat.labels s w (of_list (map seen c.in-Labelled.es.items))) z rest) c.in_ok-body-in-Labelled.ensures
    ∙ sym (ap (λ z. spec.case_items s w (item z o)) c.in-Labelled.is))

pub case_item-returns-in_ok-body-in-Default : goal.case_item-returns-in_ok-body-in-Default
case_item-returns-in_ok-body-in-Default t c = λ o.
    let s = seen_scope c.args.scope.now in
    let w = c.args.wild in
    let rest = spec.case_items s w o in
    ap (λ z. p.MoreItems (exps_of z) (stm_of c.in_ok-body-in-Default.body) rest) c.new-labels.ensures.items
    ∙ (ap (λ z. p.MoreItems p.NoExps z rest) c.in_ok-body-in-Default.ensures
    ∙ sym (ap (λ z. spec.case_items s w (item z o)) c.in-Default.is))
