-- Sums that stop at a cap.
use Rattle.std.proofs.Common.{◌≡◌, ◌+◌, ◌<◌, ℕ, min, List, [], ◌∷◌, ◌++◌, length, map, get_or, drop, take, sym, ap, ◌∙◌, arith}
use Rattle.std.specs.Prelude.{sum_by}
use Rattle.std.proofs.lemmas.List.{map_more}
use Rattle.std.proofs.lemmas.List.Sums.{sum_by-drop_more}

more : (cap a n r f w : ℕ) → n ≡ min cap (a + f) → min cap (a + (f + w)) ≡ r → min cap (n + w) ≡ r
more cap a n r f w h k = omega arith

pub turn-step : (cap : ℕ) (f : ℕ → ℕ) (xs : List ℕ) (i a n r y : ℕ) → i < length xs → y ≡ f (get_or xs i 0) → n ≡ min cap (a + y) → min cap (a + sum_by f (drop i xs)) ≡ r → min cap (n + sum_by f (drop (i + 1) xs)) ≡ r
turn-step cap f xs i a n r y h e k inv =
    let m : sum_by f (drop i xs) ≡ f (get_or xs i 0) + sum_by f (drop (i + 1) xs) = sum_by-drop_more f xs i 0 h in
    more cap a n r (f (get_or xs i 0)) (sum_by f (drop (i + 1) xs)) (k ∙ ap (λ z. min cap (a + z)) e) (sym (ap (λ z. min cap (a + z)) m) ∙ inv)

-- one item more of a list that is made from another
pub pushed : {A : Type 0} (f : A → ℕ) (xs : List A) (i y : ℕ) (x : A) (vs ws : List ℕ) → i < length xs → x ≡ get_or xs i x → y ≡ f x → vs ≡ map f (take i xs) → ws ≡ vs ++ y ∷ [] → ws ≡ map f (take (i + 1) xs)
pushed f xs i y x vs ws h e g k m =
    m ∙ (ap (λ z. z ++ y ∷ []) k ∙ (ap (λ z. map f (take i xs) ++ z ∷ []) (g ∙ ap f e) ∙ sym (map_more f xs i x h)))
