use Rattle.std.proofs.Common.{arith, ◌≡◌, ◌<◌, ◌+◌, length, drop, get_or, refl, sym, ap, ◌∙◌, subst}
use Rattle.std.proofs.lemmas.Result.{on_ok_weaker}
use Rattle.vl_design.specs.Exec.{exec}
use Rattle.vl_design.specs.Laws.{can_act, IsUnrolledStm}
use Rattle.vl_design.specs.Seen as seen
use Rattle.vl_design.specs.Sound.{IsSoundStm}
use Rattle.vl_design.specs.Syntax.{Stm, Nop, If}
use Rattle.vl_design.specs.Trees.{exp_of, stm_of, then_of}
use Rattle.vl_design.specs.Width.{names_of}
use Rattle.vl_design.proofs.Resting.{exec_over}
use Rattle.vl_design.proofs.TreeLemmas.{stm_of-Seq, then-more}
use Rattle.vl_run.specs.Cases.{items_of}
use Rattle.vl_run.proofs.Casing.{body-is, labels-sound}
use Rattle.vl_run.proofs.Statements.{if-call, if-first, if-of, if-second, if-test}
use Rattle.ten_zero.specs.Early.{flat_in, scope_in, state_in}
use Rattle.ten_zero.specs.Nodes.{nodes}
use Rattle.ten_zero.proofs.Acting.{choice-acts}
use Rattle.ten_zero.proofs.Walking.{first-unrolled, second-unrolled, branch-nodes, case-sound, case-unrolled, case-nodes, unrolled-behind, choice-of, choice-over, choice-first, choice-second, case-at, case-done, one-act}
use Rattle.ten_zero.proofs.setting.Setting.+walk.Goals as goal

pub returns-then-e-clause-does : goal.returns-then-e-clause-does
returns-then-e-clause-does t c = exec_over (scope_in c.args.self.now) (stm_of c.args.path.now c.args.s.now) (state_in c.args.e.now) c.if-e.true

pub loop-item-init : goal.loop-item-init
loop-item-init t c =
    let path = c.args.path.now in
    let s = c.args.s.now in
    let e = stm_of-Seq path s c.in-Seq.list c.in-Seq.is ∙ ap (then_of path) (sym c.deref-item-items.ensures.value) in
    record {
      machine = c.requires.machine;
      sound = subst (IsSoundStm (names_of (flat_in c.args.self.now))) e c.requires.sound;
      unrolled = subst IsUnrolledStm e c.requires.unrolled;
      small = (let n = ap nodes e in omega (arith, n));
      does = ap (λ (z : Stm). exec (scope_in c.args.self.now) z (state_in c.args.e.now)) (sym e);
    }

pub walk-requires : goal.walk-requires
walk-requires t c =
    let path = c.args.path.now in
    let xs = c.deref-item-items.result.now in
    let l = c.loop-item.invariant in
    let e = then-more path xs c.loop-item.item-index c.item-item.result c.loop-item-test.true c.item-item.is in
    let m : nodes (stm_of path c.args.s.now) ≡ t = c.decreases in
    let n = ap nodes e in
    let small = l.small in
    (omega (arith, m, n, small), (c.requires.design, ((subst (IsSoundStm (names_of (flat_in c.args.self.now))) e l.sound).0, ((subst IsUnrolledStm e l.unrolled).0, l.machine))))

pub loop-item-preserved : goal.loop-item-preserved
loop-item-preserved t c =
    let scope = scope_in c.args.self.now in
    let path = c.args.path.now in
    let xs = c.deref-item-items.result.now in
    let i = c.loop-item.item-index in
    let l = c.loop-item.invariant in
    let e = then-more path xs i c.item-item.result c.loop-item-test.true c.item-item.is in
    let rest = then_of path (drop (i + 1) xs) in
    let done = c.in_ok-walk-in-Seq.ensures in
    record {
      machine = done.machine;
      sound = (subst (IsSoundStm (names_of (flat_in c.args.self.now))) e l.sound).1;
      unrolled = (subst IsUnrolledStm e l.unrolled).1;
      small = (let n = ap nodes e in let small = l.small in omega (arith, n, small));
      does = ap (exec scope rest) (sym done.does) ∙ (sym (ap (λ (z : Stm). exec scope z (state_in c.loop-item.e)) e) ∙ l.does);
    }

pub act-requires-clause-one : goal.act-requires-clause-one
act-requires-clause-one t c =
    let path = c.args.path.now in
    one-act (scope_in c.args.self.now) path c.args.s.now (state_in c.args.e.now) c.in-Set.is (sym (c.acts.ensures path) ∙ c.if-not-acts.false) c.if-e.false

pub ask-requires-clause-sound : goal.ask-requires-clause-sound
ask-requires-clause-sound t c =
    let i = c.in-If in
    if-call c.args.path.now c.args.s.now (names_of (flat_in c.args.self.now)) c.requires.sound i.test i.first i.second i.is

pub decide-requires-clause-test : goal.decide-requires-clause-test
decide-requires-clause-test t c =
    let i = c.in-If in
    if-test c.args.path.now c.args.s.now (names_of (flat_in c.args.self.now)) c.requires.sound i.test i.first i.second i.is

pub returns-then-e-2-clause-does : goal.returns-then-e-2-clause-does
returns-then-e-2-clause-does t c =
    let scope = scope_in c.args.self.now in
    let path = c.args.path.now in
    let i = c.in-If in
    let from = state_in c.args.e.now in
    let a = stm_of path i.first.value in
    let b = stm_of path i.second.value in
    let e = if-of path c.args.s.now i.test i.first i.second i.is in
    ap (λ (z : Stm). exec scope z from) e
    ∙ choice-over scope path (seen.exp_of i.test) a b from (state_in c.ask.new.e) c.in_ok-ask-in-If.ensures.does c.if-e-2.true

pub returns-then-branch-clause-does : goal.returns-then-branch-clause-does
returns-then-branch-clause-does t c =
    let scope = scope_in c.args.self.now in
    let path = c.args.path.now in
    let i = c.in-If in
    let from = state_in c.args.e.now in
    let next = state_in c.decide.new.e in
    let end = state_in c.walk-then-branch.new.e in
    let a = stm_of path c.deref.result.now in
    let b = stm_of path i.second.value in
    let x = seen.exp_of i.test in
    let e = choice-of path c.args.s.now i.test i.first i.second c.deref.result.now i.second.value i.is c.deref.ensures refl in
    let u = unrolled-behind path x (If (exp_of i.test) a b) (subst IsUnrolledStm e c.requires.unrolled) in
    let acts = choice-acts path x a b ∙ (sym (ap can_act e) ∙ (sym (c.acts.ensures path) ∙ c.if-not-acts.false)) in
    let d = c.in_ok-decide-in-If.ensures in
    on_ok_weaker _ (λ (g : exec scope a next ≡ end). ap (λ (z : Stm). exec scope z from) e ∙ choice-first scope path x a b
    from (state_in c.ask.new.e) c.in_ok-ask-in-If.ensures.does u.0 u.1 acts c.if-e-2.false next d.counted end (sym c.if-branch.true ∙ d.holds) g)
    c.walk-then-branch.ensures.does

pub returns-else-branch-clause-does : goal.returns-else-branch-clause-does
returns-else-branch-clause-does t c =
    let scope = scope_in c.args.self.now in
    let path = c.args.path.now in
    let i = c.in-If in
    let from = state_in c.args.e.now in
    let next = state_in c.decide.new.e in
    let end = state_in c.walk-else-branch.new.e in
    let a = stm_of path i.first.value in
    let b = stm_of path c.deref-else-branch.result.now in
    let x = seen.exp_of i.test in
    let e = choice-of path c.args.s.now i.test i.first i.second i.first.value c.deref-else-branch.result.now i.is refl c.deref-else-branch.ensures in
    let u = unrolled-behind path x (If (exp_of i.test) a b) (subst IsUnrolledStm e c.requires.unrolled) in
    let acts = choice-acts path x a b ∙ (sym (ap can_act e) ∙ (sym (c.acts.ensures path) ∙ c.if-not-acts.false)) in
    let d = c.in_ok-decide-in-If.ensures in
    on_ok_weaker _ (λ (g : exec scope b next ≡ end). ap (λ (z : Stm). exec scope z from) e ∙ choice-second scope path x a b
    from (state_in c.ask.new.e) c.in_ok-ask-in-If.ensures.does u.0 u.1 acts c.if-e-2.false next d.counted end (sym c.if-branch.false ∙ d.holds) g)
    c.walk-else-branch.ensures.does

pub select-requires-clause-items : goal.select-requires-clause-items
select-requires-clause-items t c =
    let names = names_of (flat_in c.args.self.now) in
    let path = c.args.path.now in
    let i = c.in-Case in
    let e = case-at path c.args.s.now i.subject i.items i.field-2 c.deref-in-Case.result.now i.is c.deref-in-Case.ensures.value in
    labels-sound names path c.deref-in-Case.result.now (subst (IsSoundStm names) e c.requires.sound).1

pub returns-in-None-clause-does : goal.returns-in-None-clause-does
returns-in-None-clause-does t c =
    let scope = scope_in c.args.self.now in
    let path = c.args.path.now in
    let i = c.in-Case in
    let xs = c.deref-in-Case.result.now in
    let from = state_in c.args.e.now in
    let next = state_in c.select.new.e in
    let e = case-at path c.args.s.now i.subject i.items i.field-2 xs i.is c.deref-in-Case.ensures.value in
    let acts = sym (ap can_act e) ∙ (sym (c.acts.ensures path) ∙ c.if-not-acts.false) in
    let same = rw c.in-None.is at (c.in_ok-taken-in-Case.ensures.body path) in
    ap (λ (z : Stm). exec scope z from) e
    ∙ case-done scope (exp_of i.subject) (items_of path xs) Nop from next next (subst IsUnrolledStm e c.requires.unrolled) acts c.if-e.false
    same c.in_ok-taken-in-Case.ensures.counted refl

pub returns-in-Some-clause-does : goal.returns-in-Some-clause-does
returns-in-Some-clause-does t c =
    let scope = scope_in c.args.self.now in
    let path = c.args.path.now in
    let i = c.in-Case in
    let xs = c.deref-in-Case.result.now in
    let n = c.in-Some.number in
    let x = c.index.result.now in
    let a = stm_of path x.body in
    let from = state_in c.args.e.now in
    let next = state_in c.select.new.e in
    let end = state_in c.walk-in-Some.new.e in
    let e = case-at path c.args.s.now i.subject i.items i.field-2 xs i.is c.deref-in-Case.ensures.value in
    let acts = sym (ap can_act e) ∙ (sym (c.acts.ensures path) ∙ c.if-not-acts.false) in
    let there : n < length xs = rw c.in-Some.is at c.in_ok-taken-in-Case.ensures.there in
    let at = c.index.ensures ∙ ap (λ ys. get_or ys n x) (sym c.deref-in-Case.ensures.value) in
    let same = sym (body-is path xs n x there at) ∙ (rw c.in-Some.is at (c.in_ok-taken-in-Case.ensures.body path)) in
    on_ok_weaker _ (λ (g : exec scope a next ≡ end). ap (λ (z : Stm). exec scope z from) e
    ∙ case-done scope (exp_of i.subject) (items_of path xs) a from next end (subst IsUnrolledStm e c.requires.unrolled) acts c.if-e.false
    same c.in_ok-taken-in-Case.ensures.counted g) c.walk-in-Some.ensures.does

pub walk-requires-then-branch : goal.walk-requires-then-branch
walk-requires-then-branch t c =
    let path = c.args.path.now in
    let i = c.in-If in
    let sound = if-first path c.args.s.now (names_of (flat_in c.args.self.now)) c.requires.sound i.test i.first i.second i.is in
    let unrolled = first-unrolled path c.args.s.now c.requires.unrolled i.test i.first i.second i.is in
    let m : nodes (stm_of path c.args.s.now) ≡ t = c.decreases in
    let n = branch-nodes path c.args.s.now i.test i.first i.second i.is in
    let small : nodes (stm_of path i.first.value) < t = omega (arith, m, n) in
    rw c.deref.ensures (small, (c.requires.design, (sound, (unrolled, c.in_ok-decide-in-If.ensures.machine))))

pub walk-requires-else-branch : goal.walk-requires-else-branch
walk-requires-else-branch t c =
    let path = c.args.path.now in
    let i = c.in-If in
    let sound = if-second path c.args.s.now (names_of (flat_in c.args.self.now)) c.requires.sound i.test i.first i.second i.is in
    let unrolled = second-unrolled path c.args.s.now c.requires.unrolled i.test i.first i.second i.is in
    let m : nodes (stm_of path c.args.s.now) ≡ t = c.decreases in
    let n = branch-nodes path c.args.s.now i.test i.first i.second i.is in
    let small : nodes (stm_of path i.second.value) < t = omega (arith, m, n) in
    rw c.deref-else-branch.ensures (small, (c.requires.design, (sound, (unrolled, c.in_ok-decide-in-If.ensures.machine))))

pub walk-requires-in-Some : goal.walk-requires-in-Some
walk-requires-in-Some t c =
    let path = c.args.path.now in
    let s = c.args.s.now in
    let i = c.in-Case in
    let k = c.in-Some.number in
    let x = c.index.result.now in
    let l : k < length c.deref-in-Case.result.now = rw c.in-Some.is at c.in_ok-taken-in-Case.ensures.there in
    let there = rw c.deref-in-Case.ensures.value at l in
    let sound = case-sound (names_of (flat_in c.args.self.now)) path s i.subject i.items i.field-2 k x c.index.ensures i.is c.requires.sound there in
    let unrolled = case-unrolled path s i.subject i.items i.field-2 k x c.index.ensures i.is c.requires.unrolled there in
    let m : nodes (stm_of path s) ≡ t = c.decreases in
    let n = case-nodes path s i.subject i.items i.field-2 k x c.index.ensures i.is there in
    (omega (arith, m, n), (c.requires.design, (sound, (unrolled, c.in_ok-taken-in-Case.ensures.machine))))
