-- The first call that leads back, call by call.
use Rattle.std.proofs.Common.{◌≡◌, ℕ, zero, suc, ◌+◌, ◌<◌, ◌≤◌, Bool, true, List, [], ◌∷◌, ◌++◌, take, length, get_or, sym, ap, ◌∙◌, subst, arith}
use Rattle.std.specs.Prelude.{◌⊎◌, ◌↔◌, Option, None}
use Rattle.std.proofs.lemmas.List.{take_all}
use mathlib.Core.Logic.{inl, inr}
use Rattle.vl_design.specs.declared.stop.Stop.{Stop}
use Rattle.vl_design.specs.declared.stop.Stop.TheVariants.{Construct}
use Rattle.vl_design.specs.Stops.{earliest, construct_if}
use Rattle.vl_design.specs.First.{In, IsFirst}
use Rattle.vl_design.proofs.FirstsOfStops.{IsFirst-same}
use Rattle.vl_design.proofs.Both.{first-more}
use Rattle.vl_check.specs.declared.calls_calls.Call.{Call}
use Rattle.vl_check.specs.Recursion.{Reaches}
use Rattle.vl_check.specs.Tables.{row, Step, IsBack, IsBefore, IsCycleCall}
use Rattle.vl_check.proofs.Lists.{in-left, in-last, in-or, taken}
use Rattle.vl_design.specs.vl_base.proofs.Numbers.{lt_suc_cases as halves}

pub row-below : (rows : List (List Call)) (f : ℕ) (c : Call) → In c (row rows f) → f < length rows
row-below [] f c h = absurd h
row-below (r ∷ rs) zero c h = omega arith
row-below (r ∷ rs) (suc f) c h = let l = row-below rs f c h in omega (arith, l)

-- one of these calls of f leads back to it
abbrev pub Among : List (List Call) → ℕ → List Call → Stop → Type 0
Among rows f calls s = (c : Call) × In c calls × IsBack rows f c s

module _ (rows : List (List Call)) where
  pub none-before : IsFirst (IsBefore rows 0) None
  none-before = λ s w. let l = w.1 in omega (arith, l)

  pub inner-none : (f : ℕ) (best : Option Stop) → IsFirst (IsBefore rows f) best → IsFirst (λ s. IsBefore rows f s ⊎ Among rows f [] s) best
  inner-none f best h = IsFirst-same (IsBefore rows f) (λ s. IsBefore rows f s ⊎ Among rows f [] s) (λ s. (λ w. inl w, λ w. elim w [ inl k ↦ k | inr k ↦ absurd k.1 ])) best h

  pub inner-more : (f : ℕ) (calls : List Call) (i : ℕ) (c : Call) (t : Bool) (best r : Option Stop) → i < length calls → c ≡ get_or calls i c → ((t ≡ true) ↔ Reaches (Step rows) c.callee f) →
      r ≡ earliest best (construct_if t c.place 20) → IsFirst (λ s. IsBefore rows f s ⊎ Among rows f (take i calls) s) best → IsFirst (λ s. IsBefore rows f s ⊎ Among rows f (take (i + 1) calls) s) r
  inner-more f calls i c t best r l e tells is h =
      let tk = taken calls i c l e in
      let P : Stop → Type 0 = λ s. IsBefore rows f s ⊎ Among rows f (take i calls) s in
      let both = first-more P (Reaches (Step rows) c.callee f) t c.place 20 best h tells in
      subst (λ (o : Option Stop). IsFirst (λ s. IsBefore rows f s ⊎ Among rows f (take (i + 1) calls) s) o) (sym is)
      (IsFirst-same (λ s. P s ⊎ (Reaches (Step rows) c.callee f × (s ≡ Construct c.place 20))) (λ s. IsBefore rows f s ⊎ Among rows f (take (i + 1) calls) s) (λ s. (to s tk, from s tk)) (earliest best (construct_if t c.place 20)) both)
    where
      to : (s : Stop) → take (i + 1) calls ≡ take i calls ++ (c ∷ []) → (IsBefore rows f s ⊎ Among rows f (take i calls) s) ⊎ (Reaches (Step rows) c.callee f × (s ≡ Construct c.place 20)) → IsBefore rows f s ⊎ Among rows f (take (i + 1) calls) s
      to s tk (inl (inl a)) = inl a
      to s tk (inl (inr b)) = inr (b.0, subst (λ (z : List Call). In b.0 z) (sym tk) (in-left (take i calls) (c ∷ []) b.0 b.1), b.2)
      to s tk (inr q) = inr (c, subst (λ (z : List Call). In c z) (sym tk) (in-last (take i calls) c), q)

      from : (s : Stop) → take (i + 1) calls ≡ take i calls ++ (c ∷ []) → IsBefore rows f s ⊎ Among rows f (take (i + 1) calls) s → (IsBefore rows f s ⊎ Among rows f (take i calls) s) ⊎ (Reaches (Step rows) c.callee f × (s ≡ Construct c.place 20))
      from s tk (inl a) = inl (inl a)
      from s tk (inr b) = elim (in-or (take i calls) c b.0 (subst (λ (z : List Call). In b.0 z) tk b.1)) [
        | inl k ↦ inl (inr (b.0, k, b.2))
        | inr e ↦ inr (subst (λ (z : Call). IsBack rows f z s) (sym e) b.2)
      ]

  pub inner-all : (f : ℕ) (calls : List Call) (i : ℕ) (r : Option Stop) → length calls ≤ i → calls ≡ row rows f → IsFirst (λ s. IsBefore rows f s ⊎ Among rows f (take i calls) s) r → IsFirst (IsBefore rows (f + 1)) r
  inner-all f calls i r l here h = IsFirst-same (λ s. IsBefore rows f s ⊎ Among rows f (take i calls) s) (IsBefore rows (f + 1)) (λ s. (to s, λ w. from s w (halves w.0 f w.1))) r h
    where
      to : (s : Stop) → IsBefore rows f s ⊎ Among rows f (take i calls) s → IsBefore rows (f + 1) s
      to s (inl w) = let m = w.1 in (w.0, omega (arith, m), w.2, w.3, w.4)
      to s (inr b) = (f, omega arith, b.0, subst (λ (z : List Call). In b.0 z) (take_all i calls l ∙ here) b.1, b.2)

      from : (s : Stop) (w : IsBefore rows (f + 1) s) → (w.0 < f) ⊎ (w.0 ≡ f) → IsBefore rows f s ⊎ Among rows f (take i calls) s
      from s w (inl m) = inl (w.0, m, w.2, w.3, w.4)
      from s w (inr e) = inr (w.2, subst (λ (z : List Call). In w.2 z) (ap (row rows) e ∙ sym (take_all i calls l ∙ here)) w.3, subst (λ (z : ℕ). IsBack rows z w.2 s) e w.4)

  pub all-before : (n : ℕ) (best : Option Stop) → length rows ≤ n → IsFirst (IsBefore rows n) best → IsFirst (IsCycleCall rows) best
  all-before n best l h =
      IsFirst-same (IsBefore rows n) (IsCycleCall rows) (λ s. (λ w. (w.0, w.2, w.3, w.4), λ w. let m = row-below rows w.0 w.1 w.2 in (w.0, omega (arith, m, l), w.1, w.2, w.3))) best h
