use Rattle.std.proofs.Common.{sym, ap, ◌∙◌, drop, ◌+◌}
use Rattle.std.specs.Prelude.{◌||◌}
use Rattle.vl_design.specs.Laws.{can_act, items_can_act}
use Rattle.vl_design.specs.Seen as seen
use Rattle.vl_design.specs.Syntax.{Case}
use Rattle.vl_design.specs.Trees.{exp_of, stm_of, then_of}
use Rattle.vl_design.proofs.TreeLemmas.{stm_of-Seq}
use Rattle.vl_run.specs.Cases.{items_of}
use Rattle.vl_run.proofs.Casing.{case-of, items-more}
use Rattle.ten_zero.proofs.Acting.{one-more, item-acts}
use Rattle.ten_zero.proofs.acts.+acts.Goals as goal

pub acts-returns-in-Seq : goal.acts-returns-in-Seq
acts-returns-in-Seq t c = λ path.
    let i = c.in-Seq in
    c.some_acts.ensures path ∙ sym (ap can_act (stm_of-Seq path c.args.s.now i.list i.is ∙ ap (then_of path) (sym c.as_slice.ensures.value)))

pub acts-returns-in-Case : goal.acts-returns-in-Case
acts-returns-in-Case t c = λ path.
    let i = c.in-Case in
    c.some_item_acts.ensures path
    ∙ sym (ap can_act (case-of path c.args.s.now i.field-0 i.items i.field-2 i.is
    ∙ ap (λ xs. Case (exp_of i.field-0) (items_of path xs)) (sym c.as_slice-in-Case.ensures.value)))

pub some_item_acts-loop-item-preserved : goal.some_item_acts-loop-item-preserved
some_item_acts-loop-item-preserved t c = λ path.
    let xs = c.args.items.now in
    let i = c.loop-item.item-index in
    let x = c.item-item.result in
    let all = c.loop-item.all in
    let others = items_of path (drop (i + 1) xs) in
    let rest = items_can_act others in
    let more = ap items_can_act (items-more path xs i x c.loop-item-test.true c.item-item.is) ∙ item-acts (seen.exps_of x.labels.items) (stm_of path x.body) others in
    one-more all c.acts.result c.either-all.result rest (items_can_act (items_of path xs)) c.either-all.ensures
    (ap (λ b. all || (b || rest)) (c.acts.ensures path) ∙ (sym (ap (λ b. all || b) more) ∙ c.loop-item.invariant path))
