-- A number cut to a width is cut to each smaller one.
use Rattle.std.proofs.Common.{◌≡◌, ℕ, ◌+◌, ◌-◌, ◌*◌, ◌/◌, ◌%◌, ◌^◌, ◌<◌, ◌≤◌, refl, sym, ap, arith, subst}
use Rattle.std.specs.Prelude.{ℤ, pos, negsuc}
use Rattle.std.proofs.Math.Pow.{mod-mod-pow, pow_pos}
use Rattle.std.proofs.Math.Nat.{div-lt_iff_lt-mul}
use Rattle.std.proofs.lemmas.Nat.{mod_low, pow-add, mod_below}
use Rattle.vl_base.specs.Value.{wrapped}

-- a remainder with its parts, the quotient below `high`
flipped : (high p q r m : ℕ) → m ≡ q * p + r → r < p → q < high → ((high * p - 1) - m) ≡ (high - 1 - q) * p + ((p - 1) - r)
flipped high p q r m e h below =
    let t : (high - 1 - q) + 1 + q ≡ high = omega arith in
    let all : ((high - 1 - q) + 1 + q) * p ≡ high * p = ap (λ x. x * p) t in
    omega (arith, all)

pub mod-mod_below : (n k m : ℕ) → k ≤ m → n % 2 ^ m % 2 ^ k ≡ n % 2 ^ k
mod-mod_below n k m h =
    let j : m ≡ (m - k) + k = omega arith in
    rw j (mod-mod-pow n (m - k) k)

-- the rest of all ones less a number
pub not-mod : (m j k : ℕ) → m < 2 ^ (j + k) → ((2 ^ (j + k) - 1) - m) % 2 ^ k ≡ (2 ^ k - 1) - m % 2 ^ k
not-mod m j k h =
    let p : 0 < 2 ^ k = pow_pos k in
    let r : m % 2 ^ k < 2 ^ k = mod_below m (2 ^ k) p in
    let below : m < 2 ^ j * 2 ^ k = rw (← pow-add 2 j k) h in
    let q : m / 2 ^ k < 2 ^ j = (div-lt_iff_lt-mul p).1 below in
    let whole : m ≡ m / 2 ^ k * 2 ^ k + m % 2 ^ k = omega arith in
    rw (pow-add 2 j k, flipped (2 ^ j) (2 ^ k) (m / 2 ^ k) (m % 2 ^ k) m whole r q)
    (mod_low (2 ^ j - 1 - m / 2 ^ k) k ((2 ^ k - 1) - m % 2 ^ k) (omega arith))

negative-cut : (n k j : ℕ) → ((2 ^ (j + k) - 1) - n % 2 ^ (j + k)) % 2 ^ k ≡ (2 ^ k - 1) - n % 2 ^ k
negative-cut n k j =
    rw (not-mod (n % 2 ^ (j + k)) j k (mod_below n (2 ^ (j + k)) (pow_pos (j + k))), mod-mod-pow n j k) refl

pub wrapped-cut : (z : ℤ) (k m : ℕ) → k ≤ m → wrapped m z % 2 ^ k ≡ wrapped k z
wrapped-cut (pos n) k m h = mod-mod_below n k m h
wrapped-cut (negsuc n) k m h =
    let j : m ≡ (m - k) + k = omega arith in
    let P : ℕ → Type 0 = λ x. ((2 ^ x - 1) - n % 2 ^ x) % 2 ^ k ≡ (2 ^ k - 1) - n % 2 ^ k in
    subst P (sym j) (negative-cut n k (m - k))
