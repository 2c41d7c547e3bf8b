-- A longer width keeps the number that a value stands for.
use Rattle.std.proofs.Common.{◌≡◌, ℕ, zero, suc, ◌-◌, ◌*◌, ◌%◌, ◌^◌, ◌<◌, ◌≤◌, nat_le, Bool, true, false, refl, arith}
use Rattle.std.specs.Prelude.{pos, neg_ℤ, ◌&&◌}
use Rattle.std.proofs.lemmas.Bool.{leb-true, leb-false, le-leb, lt-leb}
use Rattle.std.proofs.Math.Pow.{pow_mono}
use Rattle.std.proofs.Math.Nat.{mod-eq_of_lt}
use Rattle.vl_base.specs.Value.{wrapped, reading, resized, is_negative}
use Rattle.vl_base.proofs.Booleans.{and_parts as and_true}

-- a negative number whose double has a place in w bits
negative_kept : (w m : ℕ) → 0 < m → 2 * m ≤ 2 ^ w → reading true w (wrapped w (neg_ℤ (pos m))) ≡ neg_ℤ (pos m)
negative_kept w zero h g = absurd (omega arith)
negative_kept w (suc k) h g =
    let small : k < 2 ^ w = omega arith in
    let e : k % 2 ^ w ≡ k = mod-eq_of_lt small in
    let f : (2 ^ w - 1) - k % 2 ^ w ≡ 2 ^ w - suc k = omega arith in
    let n : nat_le (2 ^ w) (2 * (2 ^ w - suc k)) ≡ true = le-leb _ _ (omega arith) in
    let back : 2 ^ w - (2 ^ w - suc k) ≡ suc k = omega arith in
    rw (f, n, back) refl

small_kept : (signed : Bool) (w v : ℕ) → v < 2 ^ w → (signed && is_negative w v) ≡ false → reading signed w (v % 2 ^ w) ≡ pos v
small_kept signed w v h g =
    let e : v % 2 ^ w ≡ v = mod-eq_of_lt h in
    rw (e, g) refl

and_false : (b c d : Bool) → (b && c) ≡ false → (c ≡ false → d ≡ false) → (b && d) ≡ false
and_false true c d h f = f h
and_false false c d h f = refl

longer_not_negative : (w to v : ℕ) → w ≤ to → is_negative w v ≡ false → is_negative to v ≡ false
longer_not_negative w to v h e =
    let more : 2 ^ w ≤ 2 ^ to = pow_mono h in
    let g : 2 * v < 2 ^ w = leb-false _ _ e in
    lt-leb _ _ (omega arith)

longer_negative : (w to v : ℕ) → w ≤ to → v < 2 ^ w → is_negative w v ≡ true → reading true to (wrapped to (neg_ℤ (pos (2 ^ w - v)))) ≡ neg_ℤ (pos (2 ^ w - v))
longer_negative w to v h small e =
    let more : 2 ^ w ≤ 2 ^ to = pow_mono h in
    let g : 2 ^ w ≤ 2 * v = leb-true _ _ e in
    negative_kept to (2 ^ w - v) (omega arith) (omega arith)

pub longer_keeps : (signed : Bool) (w to v : ℕ) → w ≤ to → v < 2 ^ w → reading signed to (resized signed w to v) ≡ reading signed w v
longer_keeps signed w to v h small = at (signed && is_negative w v) refl
  where
    at : (n : Bool) → (signed && is_negative w v) ≡ n → reading signed to (resized signed w to v) ≡ reading signed w v
    at false e =
        let more : 2 ^ w ≤ 2 ^ to = pow_mono h in
        rw e (small_kept signed to v (omega arith) (and_false signed (is_negative w v) (is_negative to v) e (longer_not_negative w to v h)))
    at true e =
        let f = and_true signed (is_negative w v) e in
        rw (f.0, f.1) (longer_negative w to v h small f.1)
