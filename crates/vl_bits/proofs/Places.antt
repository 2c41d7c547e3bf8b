-- Whole numbers and places.
use Rattle.std.proofs.Common.{◌≡◌, refl, ap, sym, ◌∙◌, ℕ, zero, suc, ◌+◌, ◌-◌, ◌*◌, ◌/◌, ◌%◌, ◌^◌, min, ◌≤◌, ◌<◌, Bool, true, false, arith}
use Rattle.std.specs.Prelude.{ℤ, pos, negsuc, neg_ℤ, ◌+ℤ◌, ◌-ℤ◌, ◌≤ℤ◌, ◌<ℤ◌, int_lt, if◌then◌else◌, ◌⊎◌}
use Rattle.std.proofs.lemmas.Grind.{common_steps}
use Rattle.std.proofs.lemmas.Int.{ints}
use Rattle.std.proofs.Math.Pow.{pow-add}
use mathlib.Core.Logic.{inl, inr}
use Rattle.vl_base.specs.Value.{reading, is_negative}
use Rattle.vl_base.specs.Selects.{picked}
use Rattle.vl_bits.specs.Constants.{near}
use Rattle.vl_base.proofs.Shared.{reading-low}
pub use Rattle.vl_base.proofs.Shared.{unsigned-reading}
pub use Rattle.vl_base.proofs.Numbers.{half_twice}

pub below-half : (s : Bool) (w v : ℕ) → 1 ≤ w → v < 2 ^ (w - 1) → reading s w v ≡ pos v
below-half s w v h k =
    let e = half_twice w h in
    let low : is_negative w v ≡ false = grind (arith, e) in
    reading-low s w v low

pub above-half : (s : Bool) (w v : ℕ) → s ≡ true → 1 ≤ w → v < 2 ^ w → 2 ^ (w - 1) ≤ v → reading s w v ≡ neg_ℤ (pos (2 ^ (w - 1) - (v - 2 ^ (w - 1))))
above-half s w v t h b k =
    let e = half_twice w h in
    let top : is_negative w v ≡ true = grind (arith, e) in
    let d : 2 ^ w - v ≡ 2 ^ (w - 1) - (v - 2 ^ (w - 1)) = omega (arith, e) in
    rw (t, top, d) refl

-- ---- places beside 128 bits

pub near_below : (z : ℤ) → z <ℤ neg_ℤ (pos 128) → near z ≡ neg_ℤ (pos 128)
near_below z h = grind (arith, ints)

pub near_above : (z : ℤ) → pos 128 <ℤ z → near z ≡ pos 128
near_above z h = grind (arith, ints)

pub near_among : (z : ℤ) → neg_ℤ (pos 128) ≤ℤ z → z ≤ℤ pos 128 → near z ≡ z
near_among z h k = grind (arith, ints)

-- a select begins as well at the nearest place
pub picked_near : (w v : ℕ) (z : ℤ) (width : ℕ) → w ≤ 128 → width ≤ 128 → picked w v (near z) width ≡ picked w v z width
picked_near w v (pos n) width h k = go (halves n)
  where
    halves : (n : ℕ) → (n ≤ 128) ⊎ (128 < n)
    halves n = grind arith

    go : (n ≤ 128) ⊎ (128 < n) → picked w v (near (pos n)) width ≡ picked w v (pos n) width
    go (inl l) = ap (λ z. picked w v z width) (near_among (pos n) (omega (arith, ints)) (omega (arith, ints)))
    go (inr l) =
        let e : min 128 w ≡ min n w = omega arith in
        ap (λ z. picked w v z width) (near_above (pos n) (omega (arith, ints))) ∙ ap (λ m. v / 2 ^ m % 2 ^ width) e
picked_near w v (negsuc n) width h k = go (halves n)
  where
    halves : (n : ℕ) → (n < 128) ⊎ (128 ≤ n)
    halves n = grind arith

    go : (n < 128) ⊎ (128 ≤ n) → picked w v (near (negsuc n)) width ≡ picked w v (negsuc n) width
    go (inl l) = ap (λ z. picked w v z width) (near_among (negsuc n) (omega (arith, ints)) (omega (arith, ints)))
    go (inr l) =
        let e : min 128 width ≡ min (suc n) width = omega arith in
        ap (λ z. picked w v z width) (near_below (negsuc n) (omega (arith, ints))) ∙ ap (λ m. v * 2 ^ m % 2 ^ width) e

pub ruleset halves = (common_steps, half_twice, below-half, above-half, unsigned-reading)

pub ruleset places = (common_steps, near_below, near_above, near_among)

pub ruleset selected = (common_steps, picked_near)
