-- The earlier of two firsts is the first of both.
use Rattle.std.proofs.Common.{◌≡◌, ℕ, Bool, true, false, refl, sym, subst}
use Rattle.std.specs.Prelude.{◌⊎◌, ◌↔◌, if◌then◌else◌, Option, Some, None}
use mathlib.Core.Logic.{inl, inr}
use Rattle.vl_base.specs.declared.place.Place.{Place}
use Rattle.vl_base.proofs.Orders.{comes_before-self, comes_before-one_way, comes_before-chain}
use Rattle.vl_design.specs.declared.stop.Stop.{Stop}
use Rattle.vl_design.specs.declared.stop.Stop.TheVariants.{Construct}
use Rattle.vl_design.specs.Stops.{is_before, place_of, number_of, earliest, construct_if}
use Rattle.vl_design.specs.First.{IsFirst}
use Rattle.vl_design.specs.Firsts.{first_of}
use Rattle.vl_design.proofs.FirstsOfStops.{before-chain as chain, before-self as itself, before-one_way as one-way}

pub first-both : (P Q : Stop → Type 0) (a b : Option Stop) → IsFirst P a → IsFirst Q b → IsFirst (λ f. P f ⊎ Q f) (first_of a b)
first-both P Q None None h k = λ f w. elim w [ inl p ↦ h f p | inr q ↦ k f q ]
first-both P Q (Some x) None h k = (inl h.0, λ f w. elim w [ inl p ↦ h.1 f p | inr q ↦ absurd (k f q) ])
first-both P Q None (Some y) h k = (inr k.0, λ f w. elim w [ inl p ↦ absurd (h f p) | inr q ↦ k.1 f q ])
first-both P Q (Some x) (Some y) h k = by (is_before y x) refl
  where
    by : (t : Bool) → is_before y x ≡ t → IsFirst (λ f. P f ⊎ Q f) (if t then Some y else Some x)
    by true t = (
      inr k.0,
      λ f w. elim w [
        | inl p ↦ chain f x y (h.1 f p) (one-way y x t)
        | inr q ↦ k.1 f q
      ],
    )
    by false t = (
      inl h.0,
      λ f w. elim w [
        | inl p ↦ h.1 f p
        | inr q ↦ chain f y x (k.1 f q) t
      ],
    )

-- one fault, where a test holds that tells of it
pub first-one : (P : Stop → Type 0) (x : Stop) → P x → ((f : Stop) → P f → f ≡ x) → IsFirst P (Some x)
first-one P x p only = (p, λ f q. subst (λ (z : Stop). is_before z x ≡ false) (sym (only f q)) (itself x))

-- one more fault, where a test holds that tells of it
pub first-more : (P : Stop → Type 0) (Q : Type 0) (t : Bool) (at : Place) (n : ℕ) (best : Option Stop) → IsFirst P best → ((t ≡ true) ↔ Q) → IsFirst (λ f. P f ⊎ (Q × (f ≡ Construct at n))) (earliest best (construct_if t at n))
first-more P Q true at n best h tells = first-both P (λ f. Q × (f ≡ Construct at n)) best (Some (Construct at n)) h (first-one (λ f. Q × (f ≡ Construct at n)) (Construct at n) (tells.0 refl, refl) (λ f w. w.1))
first-more P Q false at n best h tells = first-both P (λ f. Q × (f ≡ Construct at n)) best None h (λ f w. let e : false ≡ true = tells.1 w.0 in absurd cc)
