-- What the search of a cycle keeps, and what numbers that rise along no step say.
use Rattle.std.proofs.Common.{◌≡◌, ℕ, zero, suc, ◌+◌, ◌<◌, ◌⊎◌, ◌↔◌, inl, inr, ⊎_elim, Bool, true, false, not, List, [], ◌∷◌, ◌++◌, length, get_or, take, refl, sym, ◌∙◌, subst, arith}
use Rattle.std.specs.List.{count_by}
use Rattle.std.proofs.Math.ListN.{set}
use Rattle.std.proofs.lemmas.Grind.{common_steps}
use Rattle.std.proofs.lemmas.List.{length_push, get_or-set_same, get_or-set_other}
use Rattle.std.proofs.lemmas.Bool.{cases_eq}
use Rattle.vl_scope.specs.Faults.{In}
use Rattle.vl_scope.proofs.Members.{In-append_left, In-append_right, In-append_cases}
use Rattle.vl_names.specs.Modules.{Leads, along, on}
use Rattle.vl_names.specs.Walks.{IsStep, IsWithin, IsMarked, rank, IsFalling, Visits, Searches}
use Rattle.vl_names.proofs.Steps.{next_of}

pub In-get_or : {X : Type 0} (xs : List X) (i : ℕ) (x : X) → i < length xs → x ≡ get_or xs i x → In x xs
In-get_or xs i x h e = subst (λ y. In y xs) (sym e) (inside xs i x h)
  where
    inside : {X : Type 0} (xs : List X) (i : ℕ) (d : X) → i < length xs → In (get_or xs i d) xs
    inside [] i d h = absurd (omega arith)
    inside (x ∷ xs) zero d h = inl refl
    inside (x ∷ xs) (suc i) d h = inr (inside xs i d (omega arith))

-- one more element of which something holds
pub each-turn : (P : ℕ → Type 0) (xs : List ℕ) (i x : ℕ) → i < length xs → x ≡ get_or xs i x → P x → ((k : ℕ) → In k (take i xs) → P k) → (k : ℕ) → In k (take (i + 1) xs) → P k
each-turn P xs i x h e here before k in' = ⊎_elim (before k) (⊎_elim (λ same. subst P same here) (λ f. absurd f)) (In-append_cases k (take i xs) (x ∷ []) (subst (In k) (next_of xs i x h e) in'))

-- ---- marks

-- what is marked after one more mark
set_cases : (marks : List Bool) (node k : ℕ) → node < length marks → ((node ≡ k) × IsMarked (set marks node true) k) ⊎ (get_or (set marks node true) k false ≡ get_or marks k false)
set_cases marks node k h = ⊎_elim (λ e. inl (e, subst (IsMarked (set marks node true)) e (get_or-set_same marks node true false h))) (λ n. inr (get_or-set_other marks node k true false (λ e. n (sym e)))) (cases_eq node k)

count-set : (marks : List Bool) (node : ℕ) → node < length marks → get_or marks node false ≡ false → count_by not (set marks node true) + 1 ≡ count_by not marks
count-set marks node h e = grind (arith, common_steps)

pub visits-new : (node : ℕ) (marks : List Bool) (pile : List ℕ) → node < length marks → get_or marks node false ≡ false → Visits (node ∷ []) marks pile (set marks node true) (pile ++ node ∷ [])
visits-new node marks pile h e = record {
  same_length = grind (arith, common_steps);
  kept = λ k m. ⊎_elim (λ s. s.1) (λ s. s ∙ m) (set_cases marks node k h);
  only = λ k m. ⊎_elim (λ s. inr (inl s.0)) (λ s. inl (sym s ∙ m)) (set_cases marks node k h);
  all = λ k in'. ⊎_elim (λ s. subst (IsMarked (set marks node true)) s marked) (λ f. absurd f) in';
  piled = λ k m. ⊎_elim (λ s. inr (In-append_right k pile (node ∷ []) (inl s.0))) (λ s. inl (sym s ∙ m)) (set_cases marks node k h);
  stays = λ k in'. In-append_left k pile (node ∷ []) in';
  added = λ k in'. In-append_cases k pile (node ∷ []) in';
  less = omega (arith, count-set marks node h e, length_push pile node);
}
  where
    marked : IsMarked (set marks node true) node
    marked = get_or-set_same marks node true false h

pub visits-then : (nodes : List ℕ) (node : ℕ) (a b c : List Bool) (p q r : List ℕ) → Visits nodes a p b q → Visits (node ∷ []) b q c r → Visits (nodes ++ node ∷ []) a p c r
visits-then nodes node a b c p q r v w = record {
  same_length = w.same_length ∙ v.same_length;
  kept = λ k m. w.kept k (v.kept k m);
  only = λ k m. ⊎_elim (λ n. ⊎_elim (λ o. inl o) (λ i. inr (In-append_left k nodes (node ∷ []) i)) (v.only k n)) (λ i. inr (In-append_right k nodes (node ∷ []) i)) (w.only k m);
  all = λ k i. ⊎_elim (λ j. w.kept k (v.all k j)) (λ j. w.all k j) (In-append_cases k nodes (node ∷ []) i);
  piled = λ k m. ⊎_elim (λ n. ⊎_elim (λ o. inl o) (λ i. inr (w.stays k i)) (v.piled k n)) (λ i. inr i) (w.piled k m);
  stays = λ k i. w.stays k (v.stays k i);
  added = λ k i. ⊎_elim (λ j. ⊎_elim (λ l. inl l) (λ l. inr (In-append_left k nodes (node ∷ []) l)) (v.added k j)) (λ j. inr (In-append_right k nodes (node ∷ []) j)) (w.added k i);
  less = omega (arith, v.less, w.less);
}

-- ---- the search

pub searches-turn : (graph : List (List ℕ)) (start node : ℕ) (marks after : List Bool) (pile grown : List ℕ) → IsWithin graph → Searches graph start marks (pile ++ node ∷ []) → Visits (get_or graph node []) marks pile after grown → Searches graph start after grown
searches-turn graph start node marks after pile grown within s v = record {
  same_length = v.same_length ∙ s.same_length;
  inside = λ k i. ⊎_elim (λ j. s.inside k (In-append_left k pile (node ∷ []) j)) (λ step. within node k step) (v.added k i);
  sound = λ k m. ⊎_elim (s.sound k) (λ step. ⊎_elim (λ e. along (subst (λ x. IsStep graph x k) e step)) (λ n. on (s.sound node n) step) (s.reached node (In-append_right node pile (node ∷ []) (inl refl)))) (v.only k m);
  reached = λ k i. ⊎_elim (λ j. ⊎_elim (λ e. inl e) (λ m. inr (v.kept k m)) (s.reached k (In-append_left k pile (node ∷ []) j))) (λ step. inr (v.all k step)) (v.added k i);
  closed = λ a h. ⊎_elim (from a) (λ i. inl i) (⊎_elim (λ e. inl (inl e)) (λ m. ⊎_elim (λ n. inl (inr n)) (λ i. inr i) (v.piled a m)) h);
}
  where
    from : (a : ℕ) → (a ≡ start) ⊎ IsMarked marks a → In a grown ⊎ ((b : ℕ) → IsStep graph a b → IsMarked after b)
    from a q = ⊎_elim
        (λ i. ⊎_elim (λ j. inl (v.stays a j)) (⊎_elim (λ e. inr (λ b step. v.all b (subst (λ x. IsStep graph x b) (sym e) step))) (λ f. absurd f)) (In-append_cases a pile (node ∷ []) i))
        (λ f. inr (λ b step. v.kept b (f b step)))
        (s.closed a q)

all_marked : (graph : List (List ℕ)) (start : ℕ) (marks : List Bool) → Searches graph start marks [] → {a k : ℕ} → a ≡ start → Leads (IsStep graph) a k → IsMarked marks k
all_marked graph start marks s {a} {k} e (along step) = ⊎_elim (λ i. absurd i) (λ f. f k step) (s.closed a (inl e))
all_marked graph start marks s {a} {k} e (on {b = b} before step) = ⊎_elim (λ i. absurd i) (λ f. f k step) (s.closed b (inr (all_marked graph start marks s e before)))

pub searches-end : (graph : List (List ℕ)) (start : ℕ) (marks : List Bool) → Searches graph start marks [] → IsMarked marks start ↔ Leads (IsStep graph) start start
searches-end graph start marks s = (s.sound start, λ leads. all_marked graph start marks s refl leads)

-- ---- numbers that rise along no step

falls : (graph : List (List ℕ)) (ranks : List ℕ) (a : ℕ) → IsFalling graph ranks → ((k : ℕ) → In k (get_or graph a []) → rank ranks k < rank ranks a) → {b c : ℕ} → b ≡ a → Leads (IsStep graph) b c → rank ranks c < rank ranks a
falls graph ranks a falling below {b} {c} e (along step) = below c (subst (λ x. IsStep graph x c) e step)
falls graph ranks a falling below {b} {c} e (on {b = d} before step) = omega (arith, falling d c step, falls graph ranks a falling below e before)

pub no_way_back : (graph : List (List ℕ)) (ranks : List ℕ) (a : ℕ) → IsFalling graph ranks → ((k : ℕ) → In k (get_or graph a []) → rank ranks k < rank ranks a) → Leads (IsStep graph) a a → ⊥
no_way_back graph ranks a falling below leads = omega (arith, falls graph ranks a falling below refl leads)
