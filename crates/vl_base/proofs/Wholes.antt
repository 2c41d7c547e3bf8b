-- Whole numbers cut to a width.
use Rattle.std.proofs.Common.{◌≡◌, ℕ, zero, suc, ◌+◌, ◌-◌, ◌*◌, ◌%◌, ◌^◌, ◌<◌, ◌≤◌, Bool, true, refl, ap, ◌∙◌, arith, rules}
use Rattle.std.specs.Prelude.{ℤ, pos, negsuc, neg_ℤ, ◌+ℤ◌, ◌-ℤ◌, unsigned_abs}
use Rattle.std.specs.Int.{int_rem_euclid}
use Rattle.std.proofs.lemmas.Int.{int_rem_euclid_is, ints}
use Rattle.std.proofs.Math.Pow.{pow_pos}
use Rattle.std.proofs.Math.Nat.{mod-eq_of_lt}
use Rattle.vl_base.specs.Value.{wrapped, reading, is_negative}

as-remainder : (w : ℕ) (z : ℤ) → pos (wrapped w z) ≡ int_rem_euclid z (pos (2 ^ w))
as-remainder w (pos n) = refl
as-remainder w (negsuc n) = refl

-- a whole number that k times 2^w bring to m is the rest of m
pub wrapped-is : (w : ℕ) (z : ℤ) (k m : ℕ) → z +ℤ pos (k * 2 ^ w) ≡ pos m → wrapped w z ≡ m % 2 ^ w
wrapped-is w z k m e =
    ap unsigned_abs (as-remainder w z ∙ int_rem_euclid_is z (pos (2 ^ w)) (2 ^ w) k m (pow_pos w) refl e)

pub wrapped-difference : (w x y : ℕ) → y ≤ 2 ^ w → wrapped w (pos x -ℤ pos y) ≡ (x + (2 ^ w - y)) % 2 ^ w
wrapped-difference w x y h =
    let e : (pos x -ℤ pos y) +ℤ pos (1 * 2 ^ w) ≡ pos (x + (2 ^ w - y)) = omega (arith, ints) in
    wrapped-is w (pos x -ℤ pos y) 1 (x + (2 ^ w - y)) e

pub wrapped-negative : (w v : ℕ) → 0 < v → v < 2 ^ w → wrapped w (neg_ℤ (pos v)) ≡ 2 ^ w - v
wrapped-negative w v above below =
    let e : neg_ℤ (pos v) +ℤ pos (1 * 2 ^ w) ≡ pos (2 ^ w - v) = omega (arith, ints) in
    let small : 2 ^ w - v < 2 ^ w = omega arith in
    wrapped-is w (neg_ℤ (pos v)) 1 (2 ^ w - v) e ∙ mod-eq_of_lt small

unsigned_abs-negative : (n : ℕ) → unsigned_abs (neg_ℤ (pos n)) ≡ n
unsigned_abs-negative zero = refl
unsigned_abs-negative (suc n) = refl

pub unsigned_abs-reading : (signed : Bool) (w v : ℕ) → signed ≡ true → is_negative w v ≡ true → unsigned_abs (reading signed w v) ≡ 2 ^ w - v
unsigned_abs-reading signed w v e f = rw (e, f) (unsigned_abs-negative (2 ^ w - v))

pub above-zero : (w v : ℕ) → is_negative w v ≡ true → 0 < v
above-zero w v e = let top : 2 ^ w ≤ 2 * v = search rules in omega (arith, pow_pos w)
