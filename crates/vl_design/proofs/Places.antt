-- One in a list, with those before it.
use Rattle.std.proofs.Common.{◌≡◌, ℕ, ◌+◌, ◌<◌, List, [], ◌∷◌, ◌++◌, append_assoc, map, take, length, get_or, refl, sym, ap, ◌∙◌, subst}
use Rattle.std.specs.Prelude.{◌⊎◌, ◌↔◌}
use Rattle.std.proofs.lemmas.List.{take_more, map-append}
use mathlib.Core.Logic.{inl, inr}
use Rattle.vl_design.specs.Firsts.{Somewhere}

module _ {X : Type 0} where
  no-part : (before after : List X) (x : X) → [] ≡ before ++ (x ∷ after) → ⊥
  no-part [] after x e = cc
  no-part (b ∷ bs) after x e = cc

  -- one in a list with one more is in the list, or the one
  last-or : (xs before after : List X) (y x : X) → xs ++ (y ∷ []) ≡ before ++ (x ∷ after) → ((rest : List X) × (xs ≡ before ++ (x ∷ rest))) ⊎ ((xs ≡ before) × (y ≡ x))
  last-or [] [] after y x e = inr (refl, cc)
  last-or [] (b ∷ bs) after y x e = let z : [] ≡ bs ++ (x ∷ after) = cc in absurd (no-part bs after x z)
  last-or (z ∷ zs) [] after y x e = let same : z ≡ x = cc in inl (zs, ap (λ v. v ∷ zs) same)
  last-or (z ∷ zs) (b ∷ bs) after y x e =
      let same : z ≡ b = cc in
      let rest : zs ++ (y ∷ []) ≡ bs ++ (x ∷ after) = cc in
      elim (last-or zs bs after y x rest) [
        | inl w ↦ inl (w.0, ap (λ v. v ∷ zs) same ∙ ap (λ v. b ∷ v) w.1)
        | inr w ↦ inr (ap (λ v. v ∷ zs) same ∙ ap (λ v. b ∷ v) w.0, w.1)
      ]

  pub nowhere : (P : List X → X → Type 0) → Somewhere P [] → ⊥
  nowhere P w = no-part w.0 w.2 w.1 w.3

  pub somewhere-more : (P : List X → X → Type 0) (xs : List X) (y : X) → Somewhere P (xs ++ (y ∷ [])) ↔ (Somewhere P xs ⊎ P xs y)
  somewhere-more P xs y = (
    λ w. elim (last-or xs w.0 w.2 y w.1 w.3) [
      | inl h ↦ inl (w.0, w.1, h.0, h.1, w.4)
      | inr h ↦ inr (subst (λ (z : X). P xs z) (sym h.1) (subst (λ (zs : List X). P zs w.1) (sym h.0) w.4))
    ],
    λ s. elim s [
      | inl w ↦ (w.0, w.1, w.2 ++ (y ∷ []), ap (λ zs. zs ++ (y ∷ [])) w.3 ∙ append_assoc w.0 (w.1 ∷ w.2) (y ∷ []), w.4)
      | inr p ↦ (xs, y, [], refl, p)
    ],
  )

  -- it holds of one with other words for it
  pub somewhere-same : (P Q : List X → X → Type 0) (xs : List X) → ((before : List X) (x : X) → P before x ↔ Q before x) → Somewhere P xs → Somewhere Q xs
  somewhere-same P Q xs same w = (w.0, w.1, w.2, w.3, (same w.0 w.1).0 w.4)

pub taken-more : {A B : Type 0} (g : A → B) (ps : List A) (i : ℕ) (y : A) → i < length ps → y ≡ get_or ps i y → map g (take (i + 1) ps) ≡ map g (take i ps) ++ (g y ∷ [])
taken-more g ps i y h is =
    ap (map g) (take_more ps i y h ∙ ap (λ z. take i ps ++ (z ∷ [])) (sym is))
    ∙ map-append g (take i ps) (y ∷ [])
