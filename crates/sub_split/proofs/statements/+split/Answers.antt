use Rattle.std.proofs.Common.{[], refl, sym, ◌∙◌}
use Rattle.std.proofs.lemmas.Result.{IfOk-weaker}
use Rattle.std.specs.Vec.Iter.{into_iter_items}
use Rattle.vl_design.specs.Seen as seen
use Rattle.vl_design.specs.Syntax.{Nop, Set, Later}
use Rattle.vl_design.specs.Trees.{exp_of, target_of, stm_of}
use Rattle.vl_sites.specs.Lists as lists
use Rattle.sub_split.specs.Items.{items_of}
use Rattle.sub_split.specs.Makes.{made_view}
use Rattle.sub_split.specs.Views.{piece_view}
use Rattle.sub_split.proofs.Trees.{body-is, case-of, if-of, later-of, list-of, set-of}
use Rattle.sub_split.proofs.Paths.{items-can, stm-can, stm-same}
use Rattle.sub_split.proofs.Splitting.{assign-splits, case-rests, case-splits, default-splits, if-rests, if-splits, leads-last, leads-next, leads-passed, list-splits, none-splits}
use Rattle.sub_split.proofs.statements.+split.Goals as goal

pub default-returns-in-None : goal.default-returns-in-None
default-returns-in-None t c =
    let marks = into_iter_items c.args.marks.now in
    let nodes = c.args.nodes.now in
    let path = c.args.path.now in
    default-splits path c.args.items.now marks marks nodes nodes c.args.head (made_view nodes c.args.head) Nop Nop (c.in-None.ensures.body []) (c.in-None.ensures.body path) (none-splits marks nodes c.args.head)

pub default-returns-in-Some : goal.default-returns-in-Some
default-returns-in-Some t c =
    let nodes = c.args.nodes.now in
    let path = c.args.path.now in
    let xs = c.args.items.now in
    let x = c.index-items-number.result in
    let i = c.in-Some.number in
    let there = c.in-Some.ensures.there in
    let is = c.index-items-number.is in
    IfOk-weaker c.split.result _ _
    (λ h k. default-splits path xs (into_iter_items c.args.marks.now) (into_iter_items c.split.new.marks) nodes c.split.new.nodes h (made_view nodes c.args.head) (stm_of [] x.body) (stm_of path x.body)
    (sym (body-is [] xs i x there is) ∙ c.in-Some.ensures.body []) (sym (body-is path xs i x there is) ∙ c.in-Some.ensures.body path) k)
    (rw (← c.index-items-number.is) at c.split.ensures)

pub split-returns-in-Seq : goal.split-returns-in-Seq
split-returns-in-Seq t c =
    let nodes = c.args.nodes.now in
    let x = c.args.a.now in
    let xs = c.as_slice.result.now in
    IfOk-weaker c.split_list.result _ _
    (λ h k. list-splits c.args.path.now x xs (into_iter_items c.args.marks.now) (into_iter_items c.split_list.new.marks) nodes c.split_list.new.nodes h (made_view nodes c.args.head)
    (λ p. list-of p x c.in-Seq.list xs c.in-Seq.is c.as_slice.ensures.value) k)
    c.split_list.ensures

pub split-returns-in_ok-chosen-in-If : goal.split-returns-in_ok-chosen-in-If
split-returns-in_ok-chosen-in-If t c =
    let path = c.args.path.now in
    let x = c.args.a.now in
    let i = c.in-If in
    let first = c.deref.result.now in
    let second = c.deref-then-next_mark.result.now in
    IfOk-weaker c.call_first.result _ _
    (λ h k. if-splits path (seen.exp_of i.test) (into_iter_items c.args.marks.now) (into_iter_items c.next_mark.new.marks) c.next_mark.result c.next_mark.ensures (stm_of path first) (stm_of path second) (stm_of [] first) (stm_of [] second)
    (stm_of path x) (stm_of [] x) (if-of path x i.test i.first i.second first second i.is c.deref.ensures c.deref-then-next_mark.ensures) (if-of [] x i.test i.first i.second first second i.is c.deref.ensures c.deref-then-next_mark.ensures)
    (into_iter_items c.split.new.marks) _ c.args.nodes.now c.split.new.nodes c.split-then-next_mark.new.nodes c.choose.new.nodes c.call_first.new.nodes c.args.head c.in_ok-behind-in-If.behind c.in_ok-yes-in-If.yes c.in_ok-no-in-If.no
    c.in_ok-chosen-in-If.chosen h c.if-next_mark.true (stm-can path (seen.stm_of first)) (stm-can path (seen.stm_of second)) c.in_ok-behind-in-If.ensures c.in_ok-yes-in-If.ensures c.in_ok-no-in-If.ensures c.in_ok-chosen-in-If.ensures k)
    c.call_first.ensures

pub split-returns-else-next_mark : goal.split-returns-else-next_mark
split-returns-else-next_mark t c =
    let path = c.args.path.now in
    let x = c.args.a.now in
    let i = c.in-If in
    let first = i.first.value in
    let second = i.second.value in
    IfOk-weaker c.with.result _ _
    (λ h k. if-rests path (seen.exp_of i.test) (into_iter_items c.args.marks.now) (into_iter_items c.next_mark.new.marks) c.next_mark.result c.next_mark.ensures (stm_of path first) (stm_of path second) (stm_of [] first) (stm_of [] second)
    (stm_of path x) (stm_of [] x) (if-of path x i.test i.first i.second first second i.is refl refl) (if-of [] x i.test i.first i.second first second i.is refl refl) c.args.nodes.now c.args.head h c.if-next_mark.false (stm-same path (seen.stm_of x)) k)
    c.with.ensures

pub split-returns-then-next_mark-2 : goal.split-returns-then-next_mark-2
split-returns-then-next_mark-2 t c =
    let path = c.args.path.now in
    let x = c.args.a.now in
    let i = c.in-Case in
    let xs = c.as_slice-then-next_mark-2.result.now in
    let value = c.as_slice-then-next_mark-2.ensures.value in
    IfOk-weaker c.switch.result _ _
    (λ h k. case-splits (into_iter_items c.args.marks.now) (into_iter_items c.next_mark-in-Case.new.marks) c.next_mark-in-Case.result c.next_mark-in-Case.ensures (exp_of i.subject) (items_of path xs) (items_of [] xs) (stm_of path x) (stm_of [] x)
    (case-of path x i.subject i.items i.field-2 xs i.is value) (case-of [] x i.subject i.items i.field-2 xs i.is value) (into_iter_items c.switch.new.marks) c.args.nodes.now c.switch.new.nodes c.args.head h c.if-next_mark-2.true
    (items-can path (lists.items_of xs)) k)
    c.switch.ensures

pub split-returns-else-next_mark-2 : goal.split-returns-else-next_mark-2
split-returns-else-next_mark-2 t c =
    let path = c.args.path.now in
    let x = c.args.a.now in
    let i = c.in-Case in
    let xs = i.items.items in
    IfOk-weaker c.with-else-next_mark-2.result _ _
    (λ h k. case-rests (into_iter_items c.args.marks.now) (into_iter_items c.next_mark-in-Case.new.marks) c.next_mark-in-Case.result c.next_mark-in-Case.ensures (exp_of i.subject) (items_of path xs) (items_of [] xs) (stm_of path x) (stm_of [] x)
    (case-of path x i.subject i.items i.field-2 xs i.is refl) (case-of [] x i.subject i.items i.field-2 xs i.is refl) c.args.nodes.now c.args.head h c.if-next_mark-2.false (stm-same path (seen.stm_of x)) k)
    c.with-else-next_mark-2.ensures

pub split-returns-in_ok-begun-in-Set : goal.split-returns-in_ok-begun-in-Set
split-returns-in_ok-begun-in-Set t c =
    let path = c.args.path.now in
    let x = c.args.a.now in
    let i = c.in-Set in
    let nodes = c.args.nodes.now in
    IfOk-weaker c.call_first-in-Set.result _ _
    (λ h k. assign-splits path (seen.exp_of i.source) (into_iter_items c.args.marks.now) nodes c.call_first-in-Set.new.nodes c.args.head c.in_ok-begun-in-Set.begun h (Set (target_of i.target) (exp_of i.source)) (stm_of path x) (stm_of [] x)
    (piece_view c.set_of.result) (set-of path x i.target i.source i.is) (set-of [] x i.target i.source i.is) refl refl c.set_of.ensures c.in_ok-begun-in-Set.ensures k)
    c.call_first-in-Set.ensures

pub split-returns-in_ok-begun-in-Later : goal.split-returns-in_ok-begun-in-Later
split-returns-in_ok-begun-in-Later t c =
    let path = c.args.path.now in
    let x = c.args.a.now in
    let i = c.in-Later in
    let nodes = c.args.nodes.now in
    IfOk-weaker c.call_first-in-Later.result _ _
    (λ h k. assign-splits path (seen.exp_of i.source) (into_iter_items c.args.marks.now) nodes c.call_first-in-Later.new.nodes c.args.head c.in_ok-begun-in-Later.begun h (Later (target_of i.target) (exp_of i.source)) (stm_of path x) (stm_of [] x)
    (piece_view c.later_of.result) (later-of path x i.target i.source i.is) (later-of [] x i.target i.source i.is) refl refl c.later_of.ensures c.in_ok-begun-in-Later.ensures k)
    c.call_first-in-Later.ensures

pub ways-loop-item-preserved-then-is_default : goal.ways-loop-item-preserved-then-is_default
ways-loop-item-preserved-then-is_default t c =
    leads-passed c.args.path.now c.args.items.now c.loop-item.item-index c.item-item.result c.args.behind.now (into_iter_items c.args.marks.now) (into_iter_items c.loop-item.marks) c.args.nodes.now c.loop-item.nodes c.loop-item.all.items c.loop-item-test.true c.item-item.is
    (sym c.is_default.ensures ∙ c.if-is_default.true) c.loop-item.invariant

pub ways-loop-item-preserved : goal.ways-loop-item-preserved
ways-loop-item-preserved t c =
    leads-next c.args.path.now c.args.items.now c.loop-item.item-index c.item-item.result c.args.behind.now (into_iter_items c.args.marks.now) (into_iter_items c.loop-item.marks) (into_iter_items c.way.new.marks) c.args.nodes.now c.loop-item.nodes
    c.way.new.nodes c.loop-item.all.items c.push.new.self.items c.in_ok-way.field-0 c.loop-item-test.true c.item-item.is (sym c.is_default.ensures ∙ c.if-is_default.false) c.in_ok-push.ensures.items c.loop-item.invariant c.in_ok-way.ensures

pub ways-returns : goal.ways-returns
ways-returns t c =
    leads-last c.args.path.now c.args.items.now c.loop-item.item-index c.args.behind.now (into_iter_items c.args.marks.now) (into_iter_items c.loop-item.marks) c.args.nodes.now c.loop-item.nodes c.loop-item.all.items c.loop-item-test.false
    c.loop-item.invariant
