-- A search step by step.
use Rattle.std.proofs.Common.{◌≡◌, ℕ, zero, suc, ◌<◌, Bool, true, false, List, [], ◌∷◌, ◌++◌, length, sym, ap, ◌∙◌, subst, arith}
use Rattle.std.specs.Prelude.{◌⊎◌, ◌↔◌}
use mathlib.Core.Logic.{inl, inr}
use Rattle.vl_design.specs.First.{In}
use Rattle.cell_level.specs.Cycles.{Leads}
use Rattle.cell_level.specs.Walks.{on, Marks}
use Rattle.cell_level.proofs.Marking.{either, marked_same, marked_other, marked_kept}
use Rattle.cell_level.proofs.Ways.{leads_more}
use Rattle.vl_check.specs.declared.calls_calls.Call.{Call}
use Rattle.vl_check.specs.Recursion.{Reaches}
use Rattle.vl_check.specs.Tables.{row, Step}
use Rattle.vl_check.specs.Searches.{IsAdded, Follows}
use Rattle.vl_check.proofs.Lists.{in-left, in-right, in-last, in-or, in-one}
use Rattle.vl_design.specs.vl_base.proofs.Booleans.{never_both as not-both}

-- ---- calls are followed

pub follows-none : (seen : List Bool) (stack : List ℕ) → Follows [] seen stack seen stack
follows-none seen stack = record {
  kept = λ y h. h;
  came = λ c h. absurd h;
  from = λ y h. inl h;
  stay = λ y h. h;
  new = λ y h. inl h;
  met = λ p y h. p y h;
}

-- one more call, of a function that was come to before
again : (calls : List Call) (c : Call) (seen : List Bool) (stack : List ℕ) (mid : List Bool) (high : List ℕ) → Follows calls seen stack mid high → on mid c.callee ≡ true → Follows (calls ++ (c ∷ [])) seen stack mid high
again calls c seen stack mid high f is = record {
  kept = f.kept;
  came = λ d h. elim (in-or calls c d h) [ inl k ↦ f.came d k | inr e ↦ subst (λ (z : Call). on mid z.callee ≡ true) e is ];
  from = λ y h. elim (f.from y h) [ inl k ↦ inl k | inr w ↦ inr (w.0, in-left calls (c ∷ []) w.0 w.1, w.2) ];
  stay = f.stay;
  new = f.new;
  met = f.met;
}

-- one more call, of a new one
fresh : (calls : List Call) (c : Call) (seen : List Bool) (stack : List ℕ) (mid : List Bool) (high : List ℕ) (after : List Bool) → Follows calls seen stack mid high → Marks mid c.callee after → Follows (calls ++ (c ∷ [])) seen stack after (high ++ (c.callee ∷ []))
fresh calls c seen stack mid high after f m = record {
  kept = λ y h. marked_kept mid after c.callee m y (f.kept y h);
  came = λ d h. elim (in-or calls c d h) [
    | inl k ↦ marked_kept mid after c.callee m d.callee (f.came d k)
    | inr e ↦ subst (λ (z : Call). on after z.callee ≡ true) e (marked_same mid after c.callee m)
  ];
  from = λ y h. elim (either y c.callee) [
    | inl e ↦ inr (c, in-last calls c, sym e)
    | inr d ↦ elim (f.from y (sym (marked_other mid after c.callee m y d) ∙ h)) [ inl k ↦ inl k | inr w ↦ inr (w.0, in-left calls (c ∷ []) w.0 w.1, w.2) ]
  ];
  stay = λ y h. in-left high (c.callee ∷ []) y (f.stay y h);
  new = λ y h. elim (either y c.callee) [
    | inl e ↦ inr (in-right high (c.callee ∷ []) y (inl (sym e)))
    | inr d ↦ elim (f.new y (sym (marked_other mid after c.callee m y d) ∙ h)) [ inl k ↦ inl k | inr k ↦ inr (in-left high (c.callee ∷ []) y k) ]
  ];
  met = λ p y h. elim (in-or high c.callee y h) [
    | inl k ↦ marked_kept mid after c.callee m y (f.met p y k)
    | inr e ↦ subst (λ (z : ℕ). on after z ≡ true) e (marked_same mid after c.callee m)
  ];
}

pub follows-more : (calls : List Call) (c : Call) (seen : List Bool) (stack : List ℕ) (mid : List Bool) (high : List ℕ) (after : List Bool) (top : List ℕ) →
    Follows calls seen stack mid high → IsAdded c.callee mid high after top → Follows (calls ++ (c ∷ [])) seen stack after top
follows-more calls c seen stack mid high after top f (inl w) =
    subst (λ (z : List Bool). Follows (calls ++ (c ∷ [])) seen stack z top) (sym w.1)
    (subst (λ (z : List ℕ). Follows (calls ++ (c ∷ [])) seen stack mid z) (sym w.2) (again calls c seen stack mid high f w.0))
follows-more calls c seen stack mid high after top f (inr w) =
    subst (λ (z : List ℕ). Follows (calls ++ (c ∷ [])) seen stack after z) (sym w.2) (fresh calls c seen stack mid high after f w.1)

-- ---- the search

reach-more : (E : ℕ → ℕ → Type 0) (g x y : ℕ) → Reaches E g x → E x y → Reaches E g y
reach-more E g x y (inl e) h = inr ([], subst (λ z. E z y) (sym e) h)
reach-more E g x y (inr w) h = inr (w.0 ++ (x ∷ []), leads_more E g w.0 x y w.1 h)

-- who was come to is reached, and all that it calls was come to, once its calls were followed
pub record Searching (rows : List (List Call)) (g : ℕ) (seen : List Bool) (stack : List ℕ) : Type 0 where
  pub start : on seen g ≡ true
  pub sound : (y : ℕ) → on seen y ≡ true → Reaches (Step rows) g y
  pub pending : (y : ℕ) → In y stack → on seen y ≡ true
  pub closed : (x y : ℕ) → on seen x ≡ true → Step rows x y → (on seen y ≡ true) ⊎ In x stack

pub begun : (rows : List (List Call)) (g : ℕ) (off seen : List Bool) (empty stack : List ℕ) → ((x : ℕ) → on off x ≡ false) → empty ≡ [] → IsAdded g off empty seen stack → Searching rows g seen stack
begun rows g off seen empty stack none e (inl w) = absurd (not-both (on off g) w.0 (none g))
begun rows g off seen empty stack none e (inr w) =
    let top : stack ≡ g ∷ [] = w.2 ∙ ap (λ z. z ++ (g ∷ [])) e in
    let same : (y : ℕ) → on seen y ≡ true → g ≡ y = λ y h. elim (either y g) [
      | inl k ↦ sym k
      | inr d ↦ absurd (not-both (on seen y) h (marked_other off seen g w.1 y d ∙ none y))
    ] in
    record {
      start = marked_same off seen g w.1;
      sound = λ y h. inl (same y h);
      pending = λ y h. subst (λ (z : ℕ). on seen z ≡ true) (in-one g y (subst (λ (z : List ℕ). In y z) top h)) (marked_same off seen g w.1);
      closed = λ x y h s. inr (subst (λ (z : List ℕ). In x z) (sym top) (inl (same x h)));
    }

-- the calls of the last one on the stack are followed
pub step : (rows : List (List Call)) (g : ℕ) (seen : List Bool) (stack rest : List ℕ) (f : ℕ) (calls : List Call) (after : List Bool) (top : List ℕ) → stack ≡ rest ++ (f ∷ []) → calls ≡ row rows f →
    Searching rows g seen stack → Follows calls seen rest after top → Searching rows g after top
step rows g seen stack rest f calls after top k here s w =
    let on-f : on seen f ≡ true = s.pending f (subst (λ (z : List ℕ). In f z) (sym k) (in-last rest f)) in
    let down : (y : ℕ) → In y rest → on seen y ≡ true = λ y h. s.pending y (subst (λ (z : List ℕ). In y z) (sym k) (in-left rest (f ∷ []) y h)) in
    record {
      start = w.kept g s.start;
      sound = λ y h. elim (w.from y h) [
        | inl i ↦ s.sound y i
        | inr c ↦ reach-more (Step rows) g f y (s.sound f on-f) (c.0, subst (λ (z : List Call). In c.0 z) here c.1, c.2)
      ];
      pending = λ y h. w.met down y h;
      closed = λ x y h e. elim (w.new x h) [
        | inr i ↦ inr i
        | inl i ↦ elim (s.closed x y i e) [
          | inl j ↦ inl (w.kept y j)
          | inr j ↦ elim (in-or rest f x (subst (λ (z : List ℕ). In x z) k j)) [
            | inl m ↦ inr (w.stay x m)
            | inr m ↦ inl (came x y m e)
          ]
        ]
      ];
    }
  where
    came : (x y : ℕ) → f ≡ x → Step rows x y → on after y ≡ true
    came x y m e =
        let in-row : In e.0 calls = subst (λ (z : List Call). In e.0 z) (sym here) (subst (λ (z : ℕ). In e.0 (row rows z)) (sym m) e.1) in
        subst (λ (z : ℕ). on after z ≡ true) e.2 (w.came e.0 in-row)

carried : (E : ℕ → ℕ → Type 0) (seen : List Bool) → ((x y : ℕ) → on seen x ≡ true → E x y → on seen y ≡ true) → (p : ℕ) (others : List ℕ) (z : ℕ) → Leads E p others z → on seen p ≡ true → on seen z ≡ true
carried E seen all p [] z w h = all p z h w
carried E seen all p (q ∷ qs) z w h = carried E seen all q qs z w.1 (all p q h w.0)

-- nothing is left
pub ended : (rows : List (List Call)) (g : ℕ) (seen : List Bool) (stack : List ℕ) (to : ℕ) (r : Bool) → stack ≡ [] → Searching rows g seen stack → r ≡ on seen to → (r ≡ true) ↔ Reaches (Step rows) g to
ended rows g seen stack to r k s e = (λ h. s.sound to (sym e ∙ h), λ w. e ∙ reached w)
  where
    all : (x y : ℕ) → on seen x ≡ true → Step rows x y → on seen y ≡ true
    all x y h c = elim (s.closed x y h c) [ inl i ↦ i | inr i ↦ absurd (subst (λ (z : List ℕ). In x z) k i) ]

    reached : Reaches (Step rows) g to → on seen to ≡ true
    reached (inl i) = subst (λ (z : ℕ). on seen z ≡ true) i s.start
    reached (inr w) = carried (Step rows) seen all g w.0 to w.1 s.start

pub below : (seen : List Bool) (f : ℕ) → on seen f ≡ true → f < length seen
below [] f h = let z : ⊥ = cc in absurd z
below (b ∷ bs) zero h = omega arith
below (b ∷ bs) (suc f) h = let l = below bs f h in omega (arith, l)
