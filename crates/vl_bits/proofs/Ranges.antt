-- Ranges of bits in masks.
use Rattle.std.proofs.Common.{◌≡◌, ◌≢◌, ℕ, zero, suc, ◌+◌, ◌-◌, ◌^◌, ◌<◌, ◌≤◌, Bool, true, false, refl, sym, ap, ◌∙◌, arith}
use Rattle.std.specs.Prelude.{◌||◌, ◌&&◌, ◌==◌, ◌⊎◌, ℤ, pos, neg_ℤ, ◌+ℤ◌, ◌≤ℤ◌, ◌<ℤ◌, int_le, int_lt}
use Rattle.std.specs.Int.{bit_at}
use Rattle.std.proofs.lemmas.Grind.{common_steps}
use Rattle.std.proofs.lemmas.Int.{ints}
use Rattle.std.proofs.lemmas.Nat.Bits.{bit_at_ones, bit_at_ones_above, bit_at_mask_inside, bit_at_mask_below, bit_at_mask_above}
use Rattle.std.proofs.Math.Pow.{pow_mono, pow_pos}
use mathlib.Core.Logic.{inl, inr}
use Rattle.vl_bits.specs.Masks.{has}
use Rattle.vl_bits.proofs.Masking.{has_none}
use Rattle.vl_base.proofs.Booleans.{and_false_right as and_false}
use Rattle.vl_base.proofs.Numbers.{one_true as one, zero_not_one as nil}

abbrev pub from_to : ℤ → ℕ → ℕ → Bool
from_to low count i = int_le low (pos i) && int_lt (pos i) (low +ℤ pos count)

inside : (low : ℤ) (count i : ℕ) → low ≤ℤ pos i → pos i <ℤ (low +ℤ pos count) → from_to low count i ≡ true
inside low count i h k = grind (arith, ints)

below : (low : ℤ) (count i : ℕ) → pos i <ℤ low → from_to low count i ≡ false
below low count i h = grind (arith, ints)

above : (low : ℤ) (count i : ℕ) → (low +ℤ pos count) ≤ℤ pos i → from_to low count i ≡ false
above low count i h = grind (arith, ints)

pub ones_have : (w i : ℕ) → has (2 ^ w - 1) i ≡ from_to (pos 0) w i
ones_have w i = go (halves i w)
  where
    halves : (i w : ℕ) → (i < w) ⊎ (w ≤ i)
    halves i w = grind arith

    go : (i < w) ⊎ (w ≤ i) → has (2 ^ w - 1) i ≡ from_to (pos 0) w i
    go (inl l) = one (bit_at (2 ^ w - 1) i) (bit_at_ones w i l) ∙ sym (inside (pos 0) w i (omega (arith, ints)) (omega (arith, ints)))
    go (inr l) = nil (bit_at (2 ^ w - 1) i) (bit_at_ones_above w i l) ∙ sym (above (pos 0) w i (omega (arith, ints)))

-- the bits from lo up to hi, where lo is the first of both ranges and hi where the first of them ends
pub mask_has : (w count lo hi i : ℕ) (low : ℤ) → lo < hi → low ≤ℤ pos lo → (lo ≡ 0) ⊎ (pos lo ≡ low) → hi ≤ w → (0 < hi → pos hi ≤ℤ (low +ℤ pos count)) →
    (hi ≡ w) ⊎ (pos hi ≡ low +ℤ pos count) ⊎ ((hi ≡ 0) × ((low +ℤ pos count) ≤ℤ pos 0)) →
    has (2 ^ hi - 2 ^ lo) i ≡ (from_to (pos 0) w i && from_to low count i)
mask_has w count lo hi i low lh l first h k end = go (thirds i lo hi)
  where
    reach : pos hi ≤ℤ (low +ℤ pos count)
    reach = k (omega arith)

    thirds : (i lo hi : ℕ) → (i < lo) ⊎ ((lo ≤ i) × (i < hi)) ⊎ (hi ≤ i)
    thirds i lo hi = grind arith

    go : (i < lo) ⊎ ((lo ≤ i) × (i < hi)) ⊎ (hi ≤ i) → has (2 ^ hi - 2 ^ lo) i ≡ (from_to (pos 0) w i && from_to low count i)
    go (inl m) = nil (bit_at (2 ^ hi - 2 ^ lo) i) (bit_at_mask_below lo hi i m) ∙ sym (under first)
      where
        under : (lo ≡ 0) ⊎ (pos lo ≡ low) → (from_to (pos 0) w i && from_to low count i) ≡ false
        under (inl e) = absurd (omega (arith, ints, e, m))
        under (inr e) = ap (λ x. from_to (pos 0) w i && x) (below low count i (omega (arith, ints, e, m))) ∙ and_false (from_to (pos 0) w i)
    go (inr (inl m)) = one (bit_at (2 ^ hi - 2 ^ lo) i) (bit_at_mask_inside lo hi i m.0 m.1)
        ∙ sym (ap (λ x. x && from_to low count i) (inside (pos 0) w i (omega (arith, ints)) (omega (arith, ints, m.1, h))) ∙ inside low count i (omega (arith, ints, m.0, l)) (omega (arith, ints, m.1, reach)))
    go (inr (inr m)) = nil (bit_at (2 ^ hi - 2 ^ lo) i) (bit_at_mask_above lo hi i m) ∙ sym (over end)
      where
        over : (hi ≡ w) ⊎ (pos hi ≡ low +ℤ pos count) ⊎ ((hi ≡ 0) × ((low +ℤ pos count) ≤ℤ pos 0)) → (from_to (pos 0) w i && from_to low count i) ≡ false
        over (inl e) = ap (λ x. x && from_to low count i) (above (pos 0) w i (omega (arith, ints, e, m)))
        over (inr (inl e)) = ap (λ x. from_to (pos 0) w i && x) (above low count i (omega (arith, ints, e, m))) ∙ and_false (from_to (pos 0) w i)
        over (inr (inr e)) = absurd (omega (arith, e.0, lh))

-- no bit, where nothing is in both
pub none_has : (w count lo hi i : ℕ) (low : ℤ) → hi ≤ lo → (lo ≡ 0) ⊎ (pos lo ≡ low) → (hi ≡ w) ⊎ (pos hi ≡ low +ℤ pos count) ⊎ ((hi ≡ 0) × ((low +ℤ pos count) ≤ℤ pos 0)) →
    has 0 i ≡ (from_to (pos 0) w i && from_to low count i)
none_has w count lo hi i low l first end = has_none i ∙ sym (go first end (halves i lo))
  where
    halves : (i lo : ℕ) → (i < lo) ⊎ (lo ≤ i)
    halves i lo = grind arith

    go : (lo ≡ 0) ⊎ (pos lo ≡ low) → (hi ≡ w) ⊎ (pos hi ≡ low +ℤ pos count) ⊎ ((hi ≡ 0) × ((low +ℤ pos count) ≤ℤ pos 0)) → (i < lo) ⊎ (lo ≤ i) → (from_to (pos 0) w i && from_to low count i) ≡ false
    go (inl f) e (inl m) = absurd (omega (arith, f, m))
    go (inr f) e (inl m) = ap (λ x. from_to (pos 0) w i && x) (below low count i (omega (arith, ints, f, m))) ∙ and_false (from_to (pos 0) w i)
    go f (inl e) (inr m) = ap (λ x. x && from_to low count i) (above (pos 0) w i (omega (arith, ints, e, m, l)))
    go f (inr (inl e)) (inr m) = ap (λ x. from_to (pos 0) w i && x) (above low count i (omega (arith, ints, e, m, l))) ∙ and_false (from_to (pos 0) w i)
    go f (inr (inr e)) (inr m) = ap (λ x. from_to (pos 0) w i && x) (above low count i (omega (arith, ints, e.1, m))) ∙ and_false (from_to (pos 0) w i)

pub power_less : (lo hi : ℕ) → lo < hi → 2 ^ lo ≤ 2 ^ hi
power_less lo hi l = pow_mono {i = lo} {j = hi} (omega arith)

pub ruleset between = (common_steps, power_less, pow_pos)

pub ruleset ranges = (common_steps, ones_have)
