-- What is in lists.
use Rattle.std.proofs.Common.{◌≡◌, ℕ, zero, suc, ◌+◌, ◌-◌, ◌<◌, List, [], ◌∷◌, ◌++◌, take, length, get_or, refl, sym, ap, ◌∙◌, arith}
use Rattle.std.specs.Prelude.{◌⊎◌}
use Rattle.std.proofs.lemmas.List.{take_more}
use mathlib.Core.Logic.{inl, inr}
use Rattle.vl_design.specs.First.{In}
pub use Rattle.vl_design.specs.vl_base.proofs.Lists.{get_or_any as same-at, get_or_itself as itself-at}

module _ {X : Type 0} where
  pub in-left : (xs ys : List X) (y : X) → In y xs → In y (xs ++ ys)
  in-left [] ys y h = absurd h
  in-left (x ∷ xs) ys y (inl e) = inl e
  in-left (x ∷ xs) ys y (inr h) = inr (in-left xs ys y h)

  pub in-right : (xs ys : List X) (y : X) → In y ys → In y (xs ++ ys)
  in-right [] ys y h = h
  in-right (x ∷ xs) ys y h = inr (in-right xs ys y h)

  pub in-either : (xs ys : List X) (y : X) → In y (xs ++ ys) → In y xs ⊎ In y ys
  in-either [] ys y h = inr h
  in-either (x ∷ xs) ys y (inl e) = inl (inl e)
  in-either (x ∷ xs) ys y (inr h) = elim (in-either xs ys y h) [ inl k ↦ inl (inr k) | inr k ↦ inr k ]

  pub in-last : (xs : List X) (y : X) → In y (xs ++ (y ∷ []))
  in-last xs y = in-right xs (y ∷ []) y (inl refl)

  pub in-or : (xs : List X) (x y : X) → In y (xs ++ (x ∷ [])) → In y xs ⊎ (x ≡ y)
  in-or xs x y h = elim (in-either xs (x ∷ []) y h) [ inl k ↦ inl k | inr k ↦ inr (elim k [ inl e ↦ e | inr b ↦ absurd b ]) ]

  pub in-one : (x y : X) → In y (x ∷ []) → x ≡ y
  in-one x y h = elim h [ inl e ↦ e | inr b ↦ absurd b ]

  -- the one at a place is in the list
  pub in-there : (xs : List X) (i : ℕ) (x : X) → i < length xs → x ≡ get_or xs i x → In x xs
  in-there [] i x l e = absurd (omega arith)
  in-there (y ∷ ys) zero x l e = inl (sym e)
  in-there (y ∷ ys) (suc i) x l e = inr (in-there ys i x (omega arith) e)

pub taken : {X : Type 0} (xs : List X) (i : ℕ) (x : X) → i < length xs → x ≡ get_or xs i x → take (i + 1) xs ≡ take i xs ++ (x ∷ [])
taken xs i x l e = take_more xs i x l ∙ ap (λ z. take i xs ++ (z ∷ [])) (sym e)

-- nothing was left to take
pub emptied : {X : Type 0} (old new : List X) (n : ℕ) → old ≡ new ++ [] → new ≡ take (n - 1) old → n ≡ 0 → old ≡ []
emptied {X} old new n e r z = e ∙ ap (λ (xs : List X). xs ++ []) (r ∙ ap (λ (k : ℕ). take (k - 1) old) z)
