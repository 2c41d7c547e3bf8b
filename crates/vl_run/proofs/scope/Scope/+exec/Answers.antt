use Rattle.std.proofs.Common.{◌≡◌, ◌+◌, ◌-◌, ℕ, suc, ap, refl, sym, ◌∙◌, drop, arith}
use Rattle.std.proofs.lemmas.List.{drop_all}
use Rattle.std.proofs.lemmas.Result.{on_ok_weaker}
use Rattle.vl_design.specs.Exec.{exec, times}
use Rattle.vl_design.specs.Placed as p
use Rattle.vl_design.specs.Seen as seen
use Rattle.vl_design.specs.Syntax.{Nop, If}
use Rattle.vl_design.specs.Trees.{exp_of, stm_of, then_of}
use Rattle.vl_design.proofs.TreeLemmas.{placed-Seq}
use Rattle.vl_run.specs.Cases.{items_of}
use Rattle.vl_run.specs.Machines.{Does}
use Rattle.vl_run.specs.Scopes.{scope_of}
use Rattle.vl_run.proofs.Called.{does-called}
use Rattle.vl_run.proofs.Doing.{leads-as, does-nop, does-then, does-first, does-second, does-case, does-for, does-fine, turns-over, turns-more, turns-none, times-more, times-none}
use Rattle.vl_run.proofs.Casing.{case-of, body-is}
use Rattle.vl_run.proofs.Statements.{stms-more, if-of, set-of, later-of, for-of, repeat-of, task-of}
use Rattle.vl_run.proofs.scope.Scope.+exec.Goals as goal

pub exec-loop-item-init : goal.exec-loop-item-init
exec-loop-item-init g t c =
    let s = c.args.s.now in
    let e : seen.stm_of s ≡ p.Seq s.place (seen.stms_of c.deref-item-items.result.now) =
    placed-Seq s c.in-Seq.list c.in-Seq.is ∙ ap (λ ys. p.Seq s.place (seen.stms_of ys)) (sym c.deref-item-items.ensures.value) in
    record {
      machine = c.requires.machine;
      sound = rw e at c.requires.sound;
      leads = λ n h. rw e h;
    }

pub exec-loop-item-preserved : goal.exec-loop-item-preserved
exec-loop-item-preserved g t c =
    let l = c.loop-item.invariant in
    let done = c.in_ok-exec-in-Seq.ensures in
    let e = stms-more c.deref-item-items.result.now c.loop-item.item-index c.item-item.result c.loop-item-test.true c.item-item.is in
    let sound = rw e at l.sound in
    record {
      machine = done.machine;
      sound = sound.1;
      leads = λ n h. l.leads n (rw e (does-then (scope_of c.args.self.now) (stm_of c.args.path.now c.item-item.result) (then_of c.args.path.now (drop (c.loop-item.item-index + 1) c.deref-item-items.result.now)) _ _ n done.does h));
    }

pub exec-returns-in-Nop-clause-does : goal.exec-returns-in-Nop-clause-does
exec-returns-in-Nop-clause-does g t c = rw (c.in-Nop.is) (does-nop (scope_of c.args.self.now) c.args.m.now)

pub exec-returns-after-loop-item-clause-does : goal.exec-returns-after-loop-item-clause-does
exec-returns-after-loop-item-clause-does g t c =
    let none = drop_all c.loop-item.item-index c.deref-item-items.result.now c.loop-item-test.false in
    c.loop-item.invariant.leads c.loop-item.m (rw none (does-nop (scope_of c.args.self.now) c.loop-item.m))

pub exec-returns-in-Set-clause-does : goal.exec-returns-in-Set-clause-does
exec-returns-in-Set-clause-does g t c =
    let e = set-of c.args.path.now c.args.s.now c.in-Set.target c.in-Set.source c.in-Set.is in
    rw e c.set.ensures.does

pub exec-returns-in-Later-clause-does : goal.exec-returns-in-Later-clause-does
exec-returns-in-Later-clause-does g t c =
    let e = later-of c.args.path.now c.args.s.now c.in-Later.target c.in-Later.source c.in-Later.is in
    rw e c.set_later.ensures.does

pub exec-returns-then-bits-eq0-clause-does : goal.exec-returns-then-bits-eq0-clause-does
exec-returns-then-bits-eq0-clause-does g t c =
    let scope = scope_of c.args.self.now in
    let path = c.args.path.now in
    let i = c.in-If in
    let n = c.call_first.new.m in
    let o = c.exec-then-bits-eq0.new.m in
    let a = stm_of path i.first.value in
    let b = stm_of path i.second.value in
    let e = if-of path c.args.s.now i.test i.first i.second i.is in
    let value = rw c.sample.ensures at c.in_ok-bits-in-If.ensures in
    let zero = sym value ∙ c.if-bits-eq0.true in
    let done = rw c.deref.ensures at c.exec-then-bits-eq0.ensures.does in
    rw e (on_ok_weaker _ (λ (d : Does scope b n o). does-called scope path (seen.exp_of i.test) (If (exp_of i.test) a b) c.args.m.now n o c.in_ok-call_first-in-If.ensures.does (does-second scope (exp_of i.test) a b n o zero d)) done)

pub exec-returns-else-bits-eq0-clause-does : goal.exec-returns-else-bits-eq0-clause-does
exec-returns-else-bits-eq0-clause-does g t c =
    let scope = scope_of c.args.self.now in
    let path = c.args.path.now in
    let i = c.in-If in
    let n = c.call_first.new.m in
    let o = c.exec-else-bits-eq0.new.m in
    let a = stm_of path i.first.value in
    let b = stm_of path i.second.value in
    let e = if-of path c.args.s.now i.test i.first i.second i.is in
    let value = rw c.sample.ensures at c.in_ok-bits-in-If.ensures in
    let done = rw c.deref-else-bits-eq0.ensures at c.exec-else-bits-eq0.ensures.does in
    rw e (on_ok_weaker _ (λ (d : Does scope a n o). does-called scope path (seen.exp_of i.test) (If (exp_of i.test) a b) c.args.m.now n o c.in_ok-call_first-in-If.ensures.does (does-first scope (exp_of i.test) a b n o (λ z. c.if-bits-eq0.false (value ∙ z)) d)) done)

pub exec-returns-in-Repeat-clause-does : goal.exec-returns-in-Repeat-clause-does
exec-returns-in-Repeat-clause-does g t c =
    let e = repeat-of c.args.path.now c.args.s.now c.in-Repeat.count c.in-Repeat.body c.in-Repeat.is in
    let done = rw c.deref-in-Repeat.ensures at c.run_repeat.ensures.does in
    rw e done

pub exec-returns-in-Sys-clause-does : goal.exec-returns-in-Sys-clause-does
exec-returns-in-Sys-clause-does g t c =
    let e = task-of c.args.path.now c.args.s.now c.in-Sys.call c.in-Sys.is in
    rw e c.task.ensures.does

pub run_repeat-loop-time-init : goal.run_repeat-loop-time-init
run_repeat-loop-time-init g t c =
    record {
      machine = c.requires.machine;
      most = omega arith;
      leads = λ left n h k. let e : left ≡ c.args.count = omega (arith, h) in rw (← e) k;
    }

pub run_repeat-loop-time-preserved : goal.run_repeat-loop-time-preserved
run_repeat-loop-time-preserved g t c =
    let l = c.loop-time.invariant in
    let done = c.in_ok-exec.ensures in
    record {
      machine = done.machine;
      most = let below = c.loop-time-test.true in omega (arith, below);
      leads = λ left n h k. l.leads (suc left) n (omega (arith, h)) (times-more (exec (scope_of c.args.self.now) (stm_of c.args.path.now c.args.body.now)) left _ _ n done.does k);
    }

pub run_repeat-returns-clause-does : goal.run_repeat-returns-clause-does
run_repeat-returns-clause-does g t c =
    let l = c.loop-time.invariant in
    let step = exec (scope_of c.args.self.now) (stm_of c.args.path.now c.args.body.now) in
    let most = l.most in
    let least = c.loop-time-test.false in
    leads-as _ (times c.args.count step) c.args.m.now c.loop-time.m (λ s. refl) (l.leads 0 c.loop-time.m (omega (arith, least, most)) (times-none step c.loop-time.m))

pub exec-returns-in-Case-clause-does : goal.exec-returns-in-Case-clause-does
exec-returns-in-Case-clause-does g t c =
    let i = c.in-Case in
    let e = case-of c.args.path.now c.args.s.now i.subject i.items i.field-2 i.is in
    let done = rw c.deref-in-Case.ensures.value at c.run_case.ensures.does in
    rw e done

pub run_case-returns-in-None-clause-does : goal.run_case-returns-in-None-clause-does
run_case-returns-in-None-clause-does g t c =
    let path = c.args.path.now in
    let body = rw (c.sample.ensures, c.in-None.is) at (c.in_ok-branch.ensures.body path) in
    does-case (scope_of c.args.self.now) (exp_of c.args.subject.now) (items_of path c.args.items.now) Nop c.args.m.now c.args.m.now body (does-nop (scope_of c.args.self.now) c.args.m.now)

pub run_case-returns-in-Some-clause-does : goal.run_case-returns-in-Some-clause-does
run_case-returns-in-Some-clause-does g t c =
    let path = c.args.path.now in
    let items = c.args.items.now in
    let x = c.index-items-number.result in
    let there = rw c.in-Some.is at c.in_ok-branch.ensures.there in
    let body = rw (c.sample.ensures, c.in-Some.is) at (c.in_ok-branch.ensures.body path) in
    let same = sym (body-is path items c.in-Some.number x there c.index-items-number.is) ∙ body in
    let done = rw (← c.index-items-number.is) at c.exec.ensures.does in
    on_ok_weaker _ (does-case (scope_of c.args.self.now) (exp_of c.args.subject.now) (items_of path items) (stm_of path x.body) c.args.m.now c.exec.new.m same) done

pub turns-loop-turn-init : goal.turns-loop-turn-init
turns-loop-turn-init g t c =
    record {
      machine = c.requires.machine;
      most = omega arith;
      leads = λ left n h k. let e : left ≡ c.args.most = omega (arith, h) in rw (← e) k;
    }

pub turns-loop-turn-preserved : goal.turns-loop-turn-preserved
turns-loop-turn-preserved g t c =
    let path = c.args.path.now in
    let l = c.loop-turn.invariant in
    let i = c.in-For in
    let e = for-of path c.args.s.now i.field-0 i.field-1 i.test i.step i.body i.is in
    let first = rw c.deref.ensures at c.in_ok-exec.ensures.does in
    let second = rw c.deref-in-loop-turn.ensures at c.in_ok-exec-2.ensures.does in
    record {
      machine = c.in_ok-exec-2.ensures.machine;
      most = let below = c.loop-turn-test.true in omega (arith, below);
      leads = λ left n h k.
          let rest = rw e at k in
          let goes = λ (z : ℕ). sym c.if-not-more.false ∙ c.in_ok-more.ensures z in
          l.leads (suc left) n (omega (arith, h))
          (rw e (turns-more (scope_of c.args.self.now) i.field-0 left (stm_of path i.field-1.value) (exp_of i.test) (stm_of path i.step.value) (stm_of path i.body.value) c.loop-turn.m c.exec.new.m c.exec-in-loop-turn.new.m n goes first second rest));
    }

pub turns-returns-then-not-more-clause-turns : goal.turns-returns-then-not-more-clause-turns
turns-returns-then-not-more-clause-turns g t c =
    let path = c.args.path.now in
    let l = c.loop-turn.invariant in
    let i = c.in-For in
    let e = for-of path c.args.s.now i.field-0 i.field-1 i.test i.step i.body i.is in
    let over = λ (z : ℕ). sym c.if-not-more.true ∙ c.in_ok-more.ensures z in
    let left = c.args.most - c.loop-turn.turn in
    let most = l.most in
    l.leads left c.loop-turn.m (omega (arith, most))
    (rw e (turns-over (scope_of c.args.self.now) i.field-0 left (stm_of path i.field-1.value) (exp_of i.test) (stm_of path i.step.value) (stm_of path i.body.value) c.loop-turn.m over))

pub turns-returns-clause-turns : goal.turns-returns-clause-turns
turns-returns-clause-turns g t c =
    let path = c.args.path.now in
    let l = c.loop-turn.invariant in
    let i = c.in-For in
    let e = for-of path c.args.s.now i.field-0 i.field-1 i.test i.step i.body i.is in
    let most = l.most in
    let least = c.loop-turn-test.false in
    l.leads 0 c.loop-turn.m (omega (arith, least, most))
    (rw e (turns-none (scope_of c.args.self.now) i.field-0 (stm_of path i.field-1.value) (exp_of i.test) (stm_of path i.step.value) (stm_of path i.body.value) c.loop-turn.m))

pub run_for-returns-clause-does : goal.run_for-returns-clause-does
run_for-returns-clause-does g t c =
    let path = c.args.path.now in
    let i = c.in-For in
    let e = for-of path c.args.s.now i.variable i.start i.field-2 i.field-3 i.field-4 i.is in
    let started = rw c.deref-2.ensures at c.in_ok-exec.ensures.does in
    let turned = rw e at c.in_ok-turns.ensures.turns in
    let kept = rw c.deref.ensures.value at c.in_ok-before.ensures in
    let back = rw kept at c.put.ensures in
    rw e (does-for (scope_of c.args.self.now) i.variable (stm_of path i.start.value) (exp_of i.field-2) (stm_of path i.field-3.value) (stm_of path i.field-4.value) c.args.m.now c.exec.new.m c.turns.new.m c.put.new.values started turned back)

pub run_for-returns-clause-machine : goal.run_for-returns-clause-machine
run_for-returns-clause-machine g t c =
    record {
      fine = does-fine (scope_of c.args.self.now) (stm_of c.args.path.now c.args.s.now) c.args.m.now _ (run_for-returns-clause-does g t c) c.requires.machine.fine;
      later = c.in_ok-turns.ensures.machine.later;
    }
