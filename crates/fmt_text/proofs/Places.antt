-- Digits in a base.
use Rattle.std.proofs.Common.{◌≡◌, ◌<◌, ◌≤◌, ◌^◌, ◌*◌, ◌+◌, ◌-◌, ◌/◌, ◌%◌, refl, ℕ, zero, suc, List, [], ◌∷◌, ◌++◌, append_assoc, length, drop, get_or, Bool, true, false, arith}
use Rattle.std.specs.Prelude.{All, if◌then◌else◌, ◌==◌}
use Rattle.std.specs.List.{AllByRecursion}
use Rattle.std.proofs.Common.{mod-lt}
use Rattle.std.proofs.Math.Pow.{pow_mono, pow_pos}
use Rattle.std.proofs.lemmas.Bool.Decides.{nat_tests}
use Rattle.std.proofs.lemmas.Grind.{common_steps}
use Rattle.std.proofs.lemmas.List.Elements.{All-nil, All-push, All-from_recursion, recursion_from_All}
use Rattle.vl_design.specs.vl_base.specs.Display.{places, places_of, digits_by, least, without_zeros}
use Rattle.vl_design.specs.vl_base.proofs.Numbers.{nonzero_false as not-zero}

-- one more digit behind
pub places-more : (base n v : ℕ) → 0 < n → places base n v ≡ places base (n - 1) (v / base) ++ v % base ∷ []
places-more base zero v h = absurd (omega (arith, h))
places-more base (suc n) v h = let e : suc n - 1 ≡ n = omega arith in rw e refl

pub ruleset digits = (common_steps, places-more)

pub least-short : (xs : List ℕ) → length xs ≤ 1 → least xs ≡ xs
least-short [] h = refl
least-short (x ∷ []) h = refl
least-short (x ∷ y ∷ xs) h = absurd (omega (arith, h))

pub least-more : (xs : List ℕ) (d : ℕ) → 2 ≤ length xs → get_or xs 0 d ≡ 0 → least xs ≡ least (drop 1 xs)
least-more [] d h e = absurd (omega (arith, h))
least-more (x ∷ []) d h e = absurd (omega (arith, h))
least-more (x ∷ y ∷ xs) d h e = rw e refl

pub least-stays : (xs : List ℕ) (d : ℕ) → ¬ (get_or xs 0 d ≡ 0) → least xs ≡ xs
least-stays [] d h = refl
least-stays (x ∷ []) d h = refl
least-stays (x ∷ y ∷ xs) d h = let e = not-zero x h in rw e refl

pub zeros-more : (xs : List ℕ) (d : ℕ) → 1 ≤ length xs → get_or xs 0 d ≡ 0 → without_zeros xs ≡ without_zeros (drop 1 xs)
zeros-more [] d h e = absurd (omega (arith, h))
zeros-more (x ∷ xs) d h e = rw e refl

pub zeros-stay : (xs : List ℕ) (d : ℕ) → ¬ (get_or xs 0 d ≡ 0) → without_zeros xs ≡ xs
zeros-stay [] d h = refl
zeros-stay (x ∷ xs) d h = let e = not-zero x h in rw e refl

pub ruleset leading = (common_steps, least-short, least-more, least-stays, zeros-more, zeros-stay)

-- ---- digits below their base

module _ (P : ℕ → Type 0) where
  either-all : (b : Bool) (xs ys : List ℕ) → AllByRecursion P xs → AllByRecursion P ys → AllByRecursion P (if b then xs else ys)
  either-all true xs ys h k = h
  either-all false xs ys h k = k

  least-all : (xs : List ℕ) → AllByRecursion P xs → AllByRecursion P (least xs)
  least-all [] h = h
  least-all (x ∷ []) h = h
  least-all (x ∷ y ∷ xs) h = either-all (x == 0) (least (y ∷ xs)) (x ∷ y ∷ xs) (least-all (y ∷ xs) h.1) h

places-below : (base n v : ℕ) → 0 < base → base ≤ 16 → All (λ g. g < 16) (places base n v)
places-below base zero v h k = All-nil (λ g. g < 16)
places-below base (suc n) v h k = let m = mod-lt v h in All-push (λ g. g < 16) (places base n (v / base)) (v % base) (places-below base n (v / base) h k) (omega (arith, m, k))

size-base : (k : ℕ) → k ≤ 4 → 2 ^ k ≤ 16
size-base k h = pow_mono h

pub digits-small : (k w v : ℕ) → k ≤ 4 → All (λ g. g < 16) (digits_by k w v)
digits-small k w v h = places-below (2 ^ k) (places_of k w) v (pow_pos k) (size-base k h)

pub least-small : (xs : List ℕ) → All (λ g. g < 16) xs → All (λ g. g < 16) (least xs)
least-small xs h = All-from_recursion (λ g. g < 16) (least xs) (least-all (λ g. g < 16) xs (recursion_from_All (λ g. g < 16) xs h))

pub ruleset small = (common_steps, digits-small, least-small)
