-- What a value stands for, and the value of a whole number that fits.
use Rattle.std.proofs.Common.{◌≡◌, ℕ, zero, suc, ◌-◌, ◌*◌, ◌%◌, ◌^◌, ◌<◌, ◌≤◌, Bool, true, false, refl, ap, ◌∙◌, arith}
use Rattle.std.specs.Prelude.{ℤ, pos, negsuc, neg_ℤ, if◌then◌else◌, int_rem, unsigned_abs}
use Rattle.std.proofs.Math.Pow.{pow_pos, pow_mono}
use Rattle.std.proofs.Math.Nat.{mod-eq_of_lt, mod-le}
use Rattle.vl_base.specs.Value.{wrapped, reading, is_negative}
use Rattle.vl_base.proofs.Wholes.{wrapped-negative, above-zero}

-- a whole number that w bits can stand for
abbrev pub FitsIn : Bool → ℕ → ℤ → Type 0
FitsIn false w (pos n) = n < 2 ^ w
FitsIn false w (negsuc n) = ⊥
FitsIn true w (pos n) = 2 * n < 2 ^ w
FitsIn true w (negsuc n) = 2 * suc n ≤ 2 ^ w

pub not-negative : (w v : ℕ) → is_negative w v ≡ false → 2 * v < 2 ^ w
not-negative w v e = grind arith

pub negative-half : (w v : ℕ) → is_negative w v ≡ true → 2 ^ w ≤ 2 * v
negative-half w v e = grind arith

fits-negative : (w a : ℕ) → 2 * a ≤ 2 ^ w → FitsIn true w (neg_ℤ (pos a))
fits-negative w zero h = omega (arith, pow_pos w)
fits-negative w (suc n) h = h

fits-by : (w v : ℕ) (top : Bool) → is_negative w v ≡ top → v < 2 ^ w → FitsIn true w (if top then neg_ℤ (pos (2 ^ w - v)) else pos v)
fits-by w v true e h = let half = negative-half w v e in fits-negative w (2 ^ w - v) (omega (arith, half))
fits-by w v false e h = not-negative w v e

pub reading-fits : (signed : Bool) (w v : ℕ) → v < 2 ^ w → FitsIn signed w (reading signed w v)
reading-fits false w v h = h
reading-fits true w v h = fits-by w v (is_negative w v) refl h

value-by : (w v : ℕ) (top : Bool) → is_negative w v ≡ top → v < 2 ^ w → wrapped w (if top then neg_ℤ (pos (2 ^ w - v)) else pos v) ≡ v
value-by w v true e h =
    let above = above-zero w v e in
    wrapped-negative w (2 ^ w - v) (omega (arith, above)) (omega (arith, above)) ∙ omega arith
value-by w v false e h = mod-eq_of_lt h

-- a value is the value of what it stands for
pub wrapped-reading : (signed : Bool) (w v : ℕ) → v < 2 ^ w → wrapped w (reading signed w v) ≡ v
wrapped-reading false w v h = mod-eq_of_lt h
wrapped-reading true w v h = value-by w v (is_negative w v) refl h

pub is-low : (w n : ℕ) → 2 * n < 2 ^ w → is_negative w n ≡ false
is-low w n h = grind arith

is-high : (w n : ℕ) → 2 ^ w ≤ 2 * n → is_negative w n ≡ true
is-high w n h = grind arith

-- a whole number that fits is what its value stands for
pub reading-wrapped : (signed : Bool) (w : ℕ) (z : ℤ) → FitsIn signed w z → reading signed w (wrapped w z) ≡ z
reading-wrapped false w (pos n) h = ap pos (mod-eq_of_lt h)
reading-wrapped false w (negsuc n) h = absurd h
reading-wrapped true w (pos n) h =
    let same : n % 2 ^ w ≡ n = mod-eq_of_lt (omega arith) in
    rw (same, is-low w n h) refl
reading-wrapped true w (negsuc n) h =
    let same : n % 2 ^ w ≡ n = mod-eq_of_lt (omega arith) in
    let high : 2 ^ w ≤ 2 * ((2 ^ w - 1) - n) = omega arith in
    let back : 2 ^ w - ((2 ^ w - 1) - n) ≡ suc n = omega arith in
    rw (same, is-high w ((2 ^ w - 1) - n) high, back) refl

rem-negative : (w a : ℕ) (d : ℕ) → 2 * a ≤ 2 ^ w → FitsIn true w (neg_ℤ (pos (a % d)))
rem-negative w a d h = let less : a % d ≤ a = mod-le a d in fits-negative w (a % d) (omega (arith, less))

pub rem-fits : (signed : Bool) (w : ℕ) (a d : ℤ) → FitsIn signed w a → FitsIn signed w (int_rem a d)
rem-fits false w (pos n) d h = let less : n % unsigned_abs d ≤ n = mod-le n (unsigned_abs d) in omega (arith, less)
rem-fits false w (negsuc n) d h = absurd h
rem-fits true w (pos n) d h = let less : n % unsigned_abs d ≤ n = mod-le n (unsigned_abs d) in omega (arith, less)
rem-fits true w (negsuc n) d h = rem-negative w (suc n) (unsigned_abs d) h

-- what fits a width fits each wider one
pub fits-wider : (signed : Bool) (w m : ℕ) (z : ℤ) → w ≤ m → FitsIn signed w z → FitsIn signed m z
fits-wider false w m (pos n) h f = let more : 2 ^ w ≤ 2 ^ m = pow_mono h in omega (arith, more)
fits-wider false w m (negsuc n) h f = f
fits-wider true w m (pos n) h f = let more : 2 ^ w ≤ 2 ^ m = pow_mono h in omega (arith, more)
fits-wider true w m (negsuc n) h f = let more : 2 ^ w ≤ 2 ^ m = pow_mono h in omega (arith, more)
