-- Bits of masks.
use Rattle.std.proofs.Common.{◌≡◌, ◌≢◌, ℕ, zero, suc, ◌+◌, ◌-◌, ◌^◌, ◌<◌, ◌≤◌, min, max, Bool, true, false, List, [], ◌∷◌, length, get_or, set, refl, sym, ap, ◌∙◌, arith, bit_and, bit_or, Fits}
use Rattle.std.specs.Prelude.{◌||◌, ◌&&◌, not, ◌==◌, ◌⊎◌}
use Rattle.std.specs.Int.{bit_at, bit_not, w128}
use Rattle.std.proofs.lemmas.Nat.Bits.{bit_at_and, bit_at_or, bit_at_not, bit_at-lt, bit_at-zero, bit_at_above}
use Rattle.std.proofs.lemmas.List.{get_or-set_same, get_or-set_other, get_or_past}
use mathlib.Core.Logic.{inl, inr}
use Rattle.vl_bits.specs.Masks.{has}
use Rattle.vl_base.proofs.Numbers.{zero_not_one as none_test}

or_test : (x y z : ℕ) → x < 2 → y < 2 → z ≡ max x y → (z == 1) ≡ ((x == 1) || (y == 1))
or_test x y z g h e = grind arith

and_test : (x y z : ℕ) → x < 2 → y < 2 → z ≡ min x y → (z == 1) ≡ ((x == 1) && (y == 1))
and_test x y z g h e = grind arith

not_test : (x z : ℕ) → x < 2 → z ≡ 1 - x → (z == 1) ≡ not (x == 1)
not_test x z g e = grind arith

pub has_or : (a b i : ℕ) → has (bit_or a b) i ≡ (has a i || has b i)
has_or a b i = or_test (bit_at a i) (bit_at b i) (bit_at (bit_or a b) i) (bit_at-lt a i) (bit_at-lt b i) (bit_at_or a b i)

pub has_and : (a b i : ℕ) → has (bit_and a b) i ≡ (has a i && has b i)
has_and a b i = and_test (bit_at a i) (bit_at b i) (bit_at (bit_and a b) i) (bit_at-lt a i) (bit_at-lt b i) (bit_at_and a b i)

pub has_not : (a i : ℕ) → Fits w128 a → i < 128 → has (340282366920938463463374607431768211455 - a) i ≡ not (has a i)
has_not a i l h = not_test (bit_at a i) (bit_at (340282366920938463463374607431768211455 - a) i) (bit_at-lt a i) (bit_at_not w128 a i (let k : a < 2 ^ 128 = omega (arith, l) in k) h)

pub has_above : (a i : ℕ) → Fits w128 a → 128 ≤ i → has a i ≡ false
has_above a i l h = none_test (bit_at a i) (bit_at_above a 128 i (let k : a < 2 ^ 128 = omega (arith, l) in k) h)

pub has_none : (i : ℕ) → has 0 i ≡ false
has_none i = none_test (bit_at 0 i) (bit_at-zero i)

pub has_without : (a m i : ℕ) → Fits w128 a → Fits w128 m → has (bit_and a (340282366920938463463374607431768211455 - m)) i ≡ (has a i && not (has m i))
has_without a m i f g = has_and a (340282366920938463463374607431768211455 - m) i ∙ go (halves i)
  where
    halves : (i : ℕ) → (i < 128) ⊎ (128 ≤ i)
    halves i = grind arith

    go : (i < 128) ⊎ (128 ≤ i) → (has a i && has (340282366920938463463374607431768211455 - m) i) ≡ (has a i && not (has m i))
    go (inl l) = ap (λ x. has a i && x) (has_not m i g l)
    go (inr l) = rw (has_above a i f l) refl
