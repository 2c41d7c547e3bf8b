-- Sums of widths, kept within 129.
use Rattle.std.proofs.Common.{◌≡◌, sym, ap, ◌∙◌, ℕ, ◌+◌, ◌<◌, ◌≤◌, min, arith, List, [], ◌∷◌, length, get_or, drop}
use Rattle.std.proofs.lemmas.List.{at_drop_all}
use Rattle.vl_design.proofs.Earliest.{left-is}

kept-sum : (a w v n r : ℕ) → v ≡ min 129 w → n ≡ min (a + v) 129 → min 129 (n + r) ≡ min 129 (a + (w + r))
kept-sum a w v n r h k = omega (arith, h, k)

pub width-step : {A : Type 0} (F : List A → ℕ) (f : A → ℕ) → ((y : A) (ys : List A) → F (y ∷ ys) ≡ f y + F ys) → (es : List A) (i : ℕ) (y : A) (a v n r : ℕ)
    → i < length es → y ≡ get_or es i y → v ≡ min 129 (f y) → n ≡ min (a + v) 129 → min 129 (a + F (drop i es)) ≡ r → min 129 (n + F (drop (i + 1) es)) ≡ r
width-step F f cons es i y a v n r h is k j inv =
    kept-sum a (f y) v n (F (drop (i + 1) es)) k j
    ∙ (sym (ap (λ z. min 129 (a + z)) (left-is F es i y h is ∙ cons y (drop (i + 1) es))) ∙ inv)

kept-end : (a : ℕ) → a ≤ 129 → a ≡ min 129 (a + 0)
kept-end a h = omega (arith, h)

pub width-finish : {A : Type 0} (F : List A → ℕ) → F [] ≡ 0 → (es : List A) (i a r : ℕ) → length es ≤ i → a ≤ 129 → min 129 (a + F (drop i es)) ≡ r → a ≡ r
width-finish F none es i a r h k inv = kept-end a k ∙ (sym (ap (λ z. min 129 (a + z)) (at_drop_all F es i h ∙ none)) ∙ inv)
