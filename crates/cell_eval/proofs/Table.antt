-- The table of masks.
use Rattle.std.proofs.Common.{◌≡◌, ℕ, zero, suc, ◌+◌, ◌-◌, ◌^◌, ◌<◌, Bool, true, ◌&&◌, eqb, T, List, [], ◌∷◌, length, get_or, ap, ◌∙◌, arith, eqb→eq}
use lib.Ieee.Fits.{and_l, and_r}

abbrev are_masks_from : ℕ → List ℕ → Bool
are_masks_from k [] = true
are_masks_from k (x ∷ xs) = eqb x (2 ^ k - 1) && are_masks_from (suc k) xs

pub mask-at : (xs : List ℕ) (k i j : ℕ) → T (are_masks_from k xs) → i < length xs → j ≡ k + i → get_or xs i 0 ≡ 2 ^ j - 1
mask-at [] k i j t h e = absurd (omega arith)
mask-at (x ∷ xs) k zero j t h e = let s : k ≡ j = omega arith in eqb→eq _ _ (and_l _ _ t) ∙ ap (λ y. 2 ^ y - 1) s
mask-at (x ∷ xs) k (suc i) j t h e = mask-at xs (suc k) i j (and_r (eqb x (2 ^ k - 1)) _ t) (omega arith) (omega arith)
