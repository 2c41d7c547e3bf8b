use Rattle.std.proofs.Common.{rules, ◌≡◌, ℕ, ◌<◌, List, [], get_or, set, length, length-set, get_or-set_same, get_or-set_other, sym, ap, ◌∙◌, subst, arith}
use mathlib.Core.Logic.{dite}
use native.Mathlib.Decide.{ℕ_discrete}
use Rattle.std.specs.Prelude.{All, Vec}
use Rattle.std.specs.declared.alloc.Global.{Global}
use Rattle.std.specs.declared.snapshot.Snapshot.{Snapshot}
use Rattle.std.proofs.lemmas.List.{get_or_default}
use Rattle.std.proofs.lemmas.List.Elements.{All-nil, All-set}
use Rattle.fab_desk.specs.fab_bay.specs.declared.leaving.Leaving.{Leaving}
use Rattle.fab_orders.specs.declared.outcomes.Start.{Start}
use Rattle.fab_rounds.specs.declared.workers.Worker.{Worker}
use Rattle.fab_rounds.specs.Ledgers.{pile_sum, AreLeft}
use Rattle.fab_orders.proofs.Totals.{total-set, total_all}
use Rattle.fab_rounds.proofs.ledgers.Ledger.take_all.Goals as goal

pub take_piles-requires-clause-left : goal.take_piles-requires-clause-left
take_piles-requires-clause-left c = let v = c.loop-i.invariant in let old = c.index_mut-worker.result.now in
    let l : c.loop-i.i < length c.loop-i.workers.items = search rules in
    subst (λ (x : List (Vec Leaving Global)). AreLeft c.loop-i.self.loaded.value.items x) (sym (c.emptied-piles.ensures.out ∙ ap (λ (w : Worker). w.out.items) c.index_mut-worker.ensures.value)) (v.left c.loop-i.i old l)

pub loop-i-preserved : goal.loop-i-preserved
loop-i-preserved c = let v = c.loop-i.invariant in let t = c.in_ok-take_piles.ensures in let i = c.loop-i.i in let ws = c.loop-i.workers.items in
    let old = c.index_mut-worker.result.now in let w = c.emptied-piles.new.self in let is = c.index_mut-worker.ensures.value in let e = c.emptied-piles.ensures in
    let l : i < length ws = search rules in
    let same : (k : ℕ) (x : Worker) → k ≡ i → get_or (set ws i w) k x ≡ w = λ k x q. ap (λ j. get_or (set ws i w) j x) q ∙ get_or-set_same ws i w x l in
    let was : (k : ℕ) (x : Worker) → k ≡ i → get_or ws k x ≡ old = λ k x q. ap (λ j. get_or ws j x) q ∙ get_or_default ws i x old l ∙ sym is in
    let P : List Start → Worker → Type 0 = λ s x. AreLeft s x.out.items in record {
      kept = t.kept;
      left = subst (λ (s : Snapshot (Vec Start Global)). All (P s.value.items) (set ws i w)) (sym t.same.0)
          (All-set (P c.loop-i.self.loaded.value.items) ws i w (subst (λ (x : List (Vec Leaving Global)). AreLeft c.loop-i.self.loaded.value.items x) (sym e.empty) (All-nil _)) v.left);
      same = (t.same.0 ∙ v.same.0, t.same.1 ∙ v.same.1, t.same.2 ∙ v.same.2);
      answers = (t.answers.0 ∙ v.answers.0, t.answers.1 ∙ v.answers.1);
      firsts = t.firsts ∙ v.firsts;
      sums = λ f. omega (
        arith,
        v.sums f,
        t.sums f,
        total-set (λ (x : Worker). pile_sum f x.out.items) ws i w old l,
        ap (λ (x : Worker). pile_sum f x.out.items) is,
        ap (pile_sum f) e.out,
        ap (pile_sum f) e.empty,
      );
      count = length-set ws i w ∙ v.count;
      empty = λ k x lt. dite (ℕ_discrete k i)
          (λ q. ap (λ (y : Worker). y.out.items) (same k x q) ∙ e.empty)
          (λ n. ap (λ (y : Worker). y.out.items) (get_or-set_other ws i k w x n) ∙ v.empty k x (omega (arith, lt, n)));
      fabric = λ k x lt. dite (ℕ_discrete k i)
          (λ q. ap (λ (y : Worker). y.fabric) (same k x q) ∙ e.fabric ∙ sym (ap (λ (y : Worker). y.fabric) (was k x q)) ∙ v.fabric k x lt)
          (λ n. ap (λ (y : Worker). y.fabric) (get_or-set_other ws i k w x n) ∙ v.fabric k x lt);
      seat = λ k x lt. dite (ℕ_discrete k i)
          (λ q. ap (λ (y : Worker). y.seat) (same k x q) ∙ e.seat ∙ sym (ap (λ (y : Worker). y.seat) (was k x q)) ∙ v.seat k x lt)
          (λ n. ap (λ (y : Worker). y.seat) (get_or-set_other ws i k w x n) ∙ v.seat k x lt);
    }

pub returns-clause-takes : goal.returns-clause-takes
returns-clause-takes c = let v = c.loop-i.invariant in let ws = c.loop-i.workers.items in record {
  kept = v.kept;
  same = v.same;
  answers = v.answers;
  firsts = v.firsts;
  sums = λ f. let a : (k : ℕ) (x : Worker) → k < length ws → (get_or ws k x).out.items ≡ [] = λ k x lt. v.empty k x (search rules) in
      omega (arith, v.sums f, total_all (λ (x : Worker). x.out.items ≡ []) (λ (x : Worker). pile_sum f x.out.items) (λ x q. ap (pile_sum f) q) ws a);
}
