use Rattle.std.proofs.Common.{rules, ◌≡◌, ◌+◌, true, false, List, length, drop, refl, sym, ap, ◌∙◌, subst}
use Rattle.std.proofs.lemmas.List.{drop_all}
use Rattle.std.proofs.lemmas.Result.{IfOk-weaker}
use Rattle.vl_design.specs.declared.design.CaseItem.{CaseItem}
use Rattle.vl_design.specs.declared.design.StmtNode.{the_lemmas}
use Rattle.vl_design.specs.Seen as seen
use Rattle.vl_design.specs.Syntax.{Items}
use Rattle.vl_design.specs.Trees.{exp_of, exps_of, stm_of, then_of}
use Rattle.vl_bits.specs.Seen.{names_seen}
use Rattle.vl_bits.specs.declared.sets.Sets.{Sets}
use Rattle.vl_bits.specs.Cases.{items_of, stays_open}
use Rattle.vl_bits.specs.Walks.{Walks, WalksItem, WalksItems, Branches}
use Rattle.vl_bits.proofs.Steps.{if_walks, four}
use Rattle.vl_bits.proofs.Casing.{Casing, case-of, case_walks, closed_case, item-sound, item_walks, items-more, last_item, next_item, open_case}
use Rattle.vl_bits.proofs.Statements.{case-items, if-walks, later-walks, leads-first, leads-last, leads-next, seq-sound, seq-walks}
use Rattle.vl_bits.proofs.walk.+walk.Goals as goal

pub labelled-returns : goal.labelled-returns
labelled-returns t c =
    let item = c.args.item.now in
    let before = c.args.sets.now in
    let looked : Sets = record before { read = c.looks.new.read } in
    IfOk-weaker c.branch-alloc.result _ _
    (λ v w. item_walks (names_seen c.args.m.now) (exps_of item.labels.items) (stm_of c.args.path.now item.body) before looked c.branch-alloc.new.sets v.items refl refl (rw c.as_slice.ensures.value at c.in_ok-looks.ensures.bits) c.in_ok-looks.ensures.within w)
    c.branch-alloc.ensures

pub walk-sequence-requires : goal.walk-sequence-requires
walk-sequence-requires t c =
    let i = c.in-Seq in
    (search (rules, the_lemmas), (seq-sound (names_seen c.args.m.now) c.args.path.now c.args.s.now c.requires.sound i.list c.as_slice.result.now i.is c.as_slice.ensures.value, c.requires.long))

pub walk-cases-requires : goal.walk-cases-requires
walk-cases-requires t c =
    let i = c.in-Case in
    (search (rules, the_lemmas), (case-items (names_seen c.args.m.now) c.args.path.now c.args.s.now c.requires.sound i.subject i.items i.field-2 c.as_slice-in-Case.result.now i.is c.as_slice-in-Case.ensures.value, c.requires.long))

pub walk-returns-in-Seq : goal.walk-returns-in-Seq
walk-returns-in-Seq t c =
    let i = c.in-Seq in
    IfOk-weaker c.sequence.result _ _
    (λ v w. seq-walks (names_seen c.args.m.now) c.args.path.now c.args.s.now i.list c.as_slice.result.now c.args.sets.now c.sequence.new.sets v.items i.is c.as_slice.ensures.value w)
    c.sequence.ensures

pub walk-returns-in_ok-second-in-If : goal.walk-returns-in_ok-second-in-If
walk-returns-in_ok-second-in-If t c =
    let names = names_seen c.args.m.now in
    let path = c.args.path.now in
    let i = c.in-If in
    let before = c.args.sets.now in
    let looked : Sets = record before { read = c.look.new.read } in
    let one = c.branch-alloc.new.sets in
    let two = c.branch-alloc-in-If.new.sets in
    let joined : Sets = record two { known = c.join.new.known } in
    let p = c.in_ok-first-in-If.first.items in
    let q = c.in_ok-second-in-If.second.items in
    let f = rw c.deref.ensures at c.in_ok-first-in-If.ensures in
    let g = rw c.deref-in-If.ensures at c.in_ok-second-in-If.ensures in
    let known = rw (c.as_slice-in-If.ensures.value, c.as_slice-in-If-2.ensures.value) at c.join.ensures.known in
    let bits = rw (c.as_slice-in-If.ensures.value, c.as_slice-in-If-2.ensures.value) at c.join.ensures.bits in
    four c.join.result
    (λ v l k w b. if-walks names path c.args.s.now i.test i.a i.b before joined v.items i.is
    (if_walks names (exp_of i.test) (stm_of path i.a.value) (stm_of path i.b.value) before looked one two joined p q v.items refl refl c.in_ok-look-in-If.ensures.bits f g l refl refl k w b c.in_ok-look-in-If.ensures.within))
    c.join.ensures.long known c.join.ensures.within bits

pub walk-returns-in_ok-look-in-Case : goal.walk-returns-in_ok-look-in-Case
walk-returns-in_ok-look-in-Case t c =
    let names = names_seen c.args.m.now in
    let path = c.args.path.now in
    let i = c.in-Case in
    let xs = c.as_slice-in-Case.result.now in
    let before = c.args.sets.now in
    let looked : Sets = record before { read = c.look-in-Case.new.read } in
    IfOk-weaker c.cases.result _ _
    (λ v w. subst (λ s. Walks names s before c.cases.new.sets v.items) (sym (case-of path c.args.s.now i.subject i.items i.field-2 xs i.is c.as_slice-in-Case.ensures.value))
    (case_walks names (exp_of i.subject) (items_of path xs) before looked c.cases.new.sets v.items refl refl c.in_ok-look-in-Case.ensures.bits c.in_ok-look-in-Case.ensures.within w))
    c.cases.ensures

pub walk-returns-in-Later : goal.walk-returns-in-Later
walk-returns-in-Later t c =
    let i = c.in-Later in
    later-walks (names_seen c.args.m.now) c.args.path.now c.args.s.now i.field-0 i.field-1 c.args.sets.now c.new-in-Later.result.items i.is c.new-in-Later.ensures.items

pub sequence-loop-item-init : goal.sequence-loop-item-init
sequence-loop-item-init t c = leads-first (names_seen c.args.m.now) (then_of c.args.path.now c.args.list.now) c.args.sets.now c.new-all.result.items c.new-all.ensures.items c.requires.sound

pub sequence-loop-item-preserved : goal.sequence-loop-item-preserved
sequence-loop-item-preserved t c =
    leads-next (names_seen c.args.m.now) (then_of c.args.path.now c.args.list.now) c.args.path.now c.args.list.now c.loop-item.item-index c.item-item.result c.args.sets.now c.loop-item.sets c.walk.new.sets
    c.loop-item.all.items c.in_ok-more.more.items c.append.new.self.items c.loop-item-test.true c.item-item.is c.in_ok-append.ensures.items c.loop-item.invariant c.in_ok-more.ensures

pub sequence-returns : goal.sequence-returns
sequence-returns t c =
    let i = c.loop-item.item-index in
    leads-last (names_seen c.args.m.now) (then_of c.args.path.now c.args.list.now) c.args.path.now (drop i c.args.list.now) c.args.sets.now c.loop-item.sets c.loop-item.all.items
    (drop_all i c.args.list.now c.loop-item-test.false) c.loop-item.invariant

pub cases-loop-number-preserved : goal.cases-loop-number-preserved
cases-loop-number-preserved t c =
    let names = names_seen c.args.m.now in
    let path = c.args.path.now in
    let items = items_of path c.args.items.now in
    let rest = c.args.items.now in
    let i = c.loop-number.number in
    let x = c.index-items-number.result in
    let es = seen.exps_of x.labels.items in
    let others = items_of path (drop (i + 1) rest) in
    let e = items-more path rest i x c.loop-number-test.true c.index-items-number.is in
    let s = c.args.sets.now in
    let u = c.labelled-in-loop-number.new.sets in
    let v : Sets = record u { known = c.shared.new.known } in
    let o = c.loop-number.is_open in
    let all = c.loop-number.all.items in
    let both = c.in_ok-all-2.all.items in
    let before = subst (λ (r : Items). Casing names items r s c.loop-number.sets o all) e c.loop-number.invariant.casing in
    let bits = rw (c.as_slice-in-loop-number.ensures.value, c.as_slice-in-loop-number-2.ensures.value) at c.in_ok-all-2.ensures.bits in
    let opens = c.stays_open-is_open-in-loop-number.ensures ∙ ap (λ (z : List _). stays_open o (seen.exps_of z)) c.as_slice-in-loop-number-3.ensures.value in
    let next = next_item names items es (stm_of path x.body) others s c.loop-number.sets u v o all c.in_ok-more.more.items both before c.in_ok-more.ensures
    c.in_ok-all-2.ensures.long c.in_ok-all-2.ensures.known refl refl c.in_ok-all-2.ensures.within bits in
    record {
      sound = (item-sound names es (stm_of path x.body) others (rw e at c.loop-number.invariant.sound)).2;
      casing = subst (λ z. Casing names items others s v z both) (sym opens) next;
    }

pub cases-returns-then-is_open : goal.cases-returns-then-is_open
cases-returns-then-is_open t c =
    let names = names_seen c.args.m.now in
    let path = c.args.path.now in
    let items = items_of path c.args.items.now in
    let rest = c.args.items.now in
    let i = c.loop-number.number in
    let all = c.loop-number.all.items in
    let last = last_item names items path (drop i rest) c.args.sets.now c.loop-number.sets c.loop-number.is_open true all (drop_all i rest c.loop-number-test.false) c.if-is_open.true c.loop-number.invariant.casing in
    open_case names items c.args.sets.now c.loop-number.sets all c.new-then-is_open.result.items last c.new-then-is_open.ensures.items

pub cases-returns : goal.cases-returns
cases-returns t c =
    let names = names_seen c.args.m.now in
    let path = c.args.path.now in
    let items = items_of path c.args.items.now in
    let rest = c.args.items.now in
    let i = c.loop-number.number in
    let all = c.loop-number.all.items in
    let before = c.loop-number.sets in
    let after : Sets = record before { known = c.gain.new.known } in
    let last = last_item names items path (drop i rest) c.args.sets.now before c.loop-number.is_open false all (drop_all i rest c.loop-number-test.false) c.if-is_open.false c.loop-number.invariant.casing in
    let known = rw c.as_slice-2.ensures.value at c.gain.ensures.known in
    let bits = rw c.as_slice-2.ensures.value at c.gain.ensures.bits in
    four c.gain.result (λ v l k w b. closed_case names items c.args.sets.now before after all v.items last l k refl refl w b) c.gain.ensures.long known c.gain.ensures.within bits

pub cases-labelled-requires-in-loop-number : goal.cases-labelled-requires-in-loop-number
cases-labelled-requires-in-loop-number t c =
    let names = names_seen c.args.m.now in
    let path = c.args.path.now in
    let items = c.args.items.now in
    let i = c.loop-number.number in
    let x = c.index-items-number.result in
    let e = items-more path items i x c.loop-number-test.true c.index-items-number.is in
    let k = item-sound names (seen.exps_of x.labels.items) (stm_of path x.body) (items_of path (drop (i + 1) items)) (rw e at c.loop-number.invariant.sound) in
    (search (rules, the_lemmas), (k.0, (k.1, c.loop-number.invariant.casing.long ∙ c.requires.long)))
