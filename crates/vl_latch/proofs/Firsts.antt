-- Which stop comes first.
use Rattle.std.proofs.Common.{◌≡◌, ℕ, zero, suc, ◌+◌, ◌<◌, ◌≤◌, Bool, true, false, List, [], ◌∷◌, map, length, get_or, refl, sym, ap, ◌∙◌, subst, arith}
use Rattle.std.specs.Prelude.{◌⊎◌, ◌↔◌, Any, if◌then◌else◌, Option, Some, None}
use Rattle.std.proofs.lemmas.List.{length-map}
use mathlib.Core.Logic.{inl, inr}
use Rattle.vl_base.specs.declared.place.Place.{Place}
use Rattle.vl_base.specs.Places.{comes_before}
use Rattle.vl_base.proofs.Orders.{comes_before-self, comes_before-one_way, comes_before-chain}
use Rattle.vl_design.specs.declared.stop.Stop.{Stop}
use Rattle.vl_design.specs.declared.stop.Stop.TheVariants.{Construct}
use Rattle.vl_design.specs.Stops.{is_before, place_of, number_of}
use Rattle.vl_design.specs.First.{IsFirst}
use Rattle.vl_latch.specs.Faults.{stop_at, first_of}
use Rattle.vl_design.proofs.FirstsOfStops.{before-chain as chain}
use Rattle.vl_base.proofs.Lists.{get_or_any as in-range}

-- the first of what holds is that of what holds as often
pub first-same : (P Q : Stop → Type 0) → ((s : Stop) → P s ↔ Q s) → (o : Option Stop) → IsFirst P o → IsFirst Q o
first-same P Q same None h = λ s q. h s ((same s).1 q)
first-same P Q same (Some x) h = ((same x).0 h.0, λ s q. h.1 s ((same s).1 q))

pub first-both : (P Q : Stop → Type 0) (a b : Option Place) → IsFirst P (stop_at a) → IsFirst Q (stop_at b) → IsFirst (λ s. P s ⊎ Q s) (stop_at (first_of a b))
first-both P Q None None h k = λ s. λ w. elim w [ inl p ↦ h s p | inr q ↦ k s q ]
first-both P Q (Some x) None h k = (inl h.0, λ s w. elim w [ inl p ↦ h.1 s p | inr q ↦ absurd (k s q) ])
first-both P Q None (Some y) h k = (inr k.0, λ s w. elim w [ inl p ↦ absurd (h s p) | inr q ↦ k.1 s q ])
first-both P Q (Some x) (Some y) h k = by (comes_before y 19 x 19) refl
  where
    by : (t : Bool) → comes_before y 19 x 19 ≡ t → IsFirst (λ s. P s ⊎ Q s) (stop_at (if t then Some y else Some x))
    by true t = (
      inr k.0,
      λ s w. elim w [
        | inl p ↦ chain s (Construct x 19) (Construct y 19) (h.1 s p) (comes_before-one_way y 19 x 19 t)
        | inr q ↦ k.1 s q
      ],
    )
    by false t = (
      inl h.0,
      λ s w. elim w [
        | inl p ↦ h.1 s p
        | inr q ↦ chain s (Construct y 19) (Construct x 19) (k.1 s q) t
      ],
    )

-- one fault, or none
pub first-one : (P : Stop → Type 0) (at : Place) → P (Construct at 19) → ((s : Stop) → P s → s ≡ Construct at 19) → IsFirst P (stop_at (Some at))
first-one P at p only = (p, λ s q. subst (λ (z : Stop). is_before z (Construct at 19) ≡ false) (sym (only s q)) (comes_before-self at 19))

-- ---- element by element

-- it holds for one of the first i elements
abbrev pub Before : {X : Type 0} → (X → Type 0) → List X → ℕ → Type 0
Before {X} P xs i = (k : ℕ) × (x : X) × (k < length xs) × (get_or xs k x ≡ x) × P x × (k < i)

pub before-none : {X : Type 0} (P : X → Type 0) (xs : List X) → Before P xs 0 → ⊥
before-none P xs w = let l = w.5 in omega (arith, l)

pub before-more : {X : Type 0} (P : X → Type 0) (xs : List X) (i : ℕ) (x : X) → i < length xs → x ≡ get_or xs i x → (Before P xs i ⊎ P x) ↔ Before P xs (i + 1)
before-more {X} P xs i x l e = (
  λ h. elim h [
    | inl w ↦ let k = w.5 in (w.0, w.1, w.2, w.3, w.4, omega (arith, k))
    | inr p ↦ (i, x, l, sym e, p, omega arith)
  ],
  λ w. by w (halves w.0 i (let k = w.5 in omega (arith, k))),
)
  where
    halves : (k i : ℕ) → k < i + 1 → (k < i) ⊎ (k ≡ i)
    halves k i h = grind arith

    by : (w : Before P xs (i + 1)) → (w.0 < i) ⊎ (w.0 ≡ i) → Before P xs i ⊎ P x
    by w (inl k) = inl (w.0, w.1, w.2, w.3, w.4, k)
    by w (inr k) = inr (subst P (sym (w.3) ∙ ap (λ (j : ℕ). get_or xs j w.1) k ∙ in-range xs i w.1 x l ∙ sym e) w.4)

pub before-all : {X : Type 0} (P : X → Type 0) (xs : List X) (i : ℕ) → length xs ≤ i → Before P xs i ↔ Any P xs
before-all P xs i l = (λ w. (w.0, w.1, w.2, w.3, w.4), λ w. let k = w.2 in (w.0, w.1, w.2, w.3, w.4, omega (arith, k)))

pub any-map : {X Y : Type 0} (f : X → Y) (P : Y → Type 0) (xs : List X) → Any (λ x. P (f x)) xs ↔ Any P (map f xs)
any-map {X} {Y} f P xs = (
  λ w. let l = w.2 in let m = length-map xs f in (w.0, f w.1, omega (arith, l, m), at xs w.0 w.1 w.2 ∙ ap f w.3, w.4),
  λ w. back xs w.0 w.1 w.2 w.3 w.4,
)
  where
    at : (xs : List X) (k : ℕ) (d : X) → k < length xs → get_or (map f xs) k (f d) ≡ f (get_or xs k d)
    at [] k d l = absurd (omega arith)
    at (x ∷ xs) zero d l = refl
    at (x ∷ xs) (suc k) d l = at xs k d (omega arith)

    back : (xs : List X) (k : ℕ) (y : Y) → k < length (map f xs) → get_or (map f xs) k y ≡ y → P y → Any (λ x. P (f x)) xs
    back [] k y l e p = absurd (omega arith)
    back (x ∷ xs) zero y l e p = (0, x, omega arith, refl, subst P (sym e) p)
    back (x ∷ xs) (suc k) y l e p = let w = back xs k y (omega arith) e p in let m = w.2 in (suc w.0, w.1, omega (arith, m), w.3, w.4)
