-- Shifts, and what they leave.
use Rattle.std.proofs.Common.{◌≡◌, ℕ, ◌+◌, ◌-◌, ◌*◌, ◌/◌, ◌%◌, ◌^◌, ◌<◌, ◌≤◌, min, Bool, true, false, refl, sym, ap, arith}
use Rattle.std.specs.Prelude.{◌&&◌}
use Rattle.std.proofs.Math.Pow.{pow_pos, pow_mono}
use Rattle.std.proofs.Math.Nat.{mod-eq_of_lt, div-eq_of_lt, mul-mod_left, mul-add-div_right}
use Rattle.std.proofs.lemmas.Nat.{pow-add, shr_below}
use Rattle.vl_base.specs.Value.{resized, is_negative}
use Rattle.vl_base.proofs.Wrapping.{mod-mod_below}
use Rattle.vl_base.proofs.Wholes.{wrapped-negative, above-zero}

pub left-within : (v n w : ℕ) → w ≤ 128 → n < w → v * 2 ^ n % 2 ^ 128 % 2 ^ w ≡ v * 2 ^ min n w % 2 ^ w
left-within v n w narrow within =
    let m : min n w ≡ n = omega arith in rw m (mod-mod_below (v * 2 ^ n) w 128 narrow)

pub left-past : (v n w : ℕ) → w ≤ n → 0 ≡ v * 2 ^ min n w % 2 ^ w
left-past v n w past = let m : min n w ≡ w = omega arith in rw m (sym (mul-mod_left v (2 ^ w)))

pub right-within : (v n w : ℕ) → n < w → v / 2 ^ n ≡ v / 2 ^ min n w
right-within v n w within = let m : min n w ≡ n = omega arith in rw m refl

pub right-past : (v n w : ℕ) → v < 2 ^ w → w ≤ n → 0 ≡ v / 2 ^ min n w
right-past v n w fits past = let m : min n w ≡ w = omega arith in rw m (sym (div-eq_of_lt fits))

pub right-below : (v n w : ℕ) → v < 2 ^ w → v / 2 ^ min n w < 2 ^ (w - n)
right-below v n w fits =
    let k : w ≡ (w - n) + min n w = omega arith in
    let below : v < 2 ^ ((w - n) + min n w) = rw (← k) fits in
    shr_below v (w - n) (min n w) below

-- a value that isn't negative, moved to the right
pub unsigned-right : (signed : Bool) (w v m : ℕ) → v < 2 ^ w → (signed && is_negative w v) ≡ false → resized signed w (w + m) v / 2 ^ m ≡ v / 2 ^ m
unsigned-right signed w v m fits e =
    let wide : 2 ^ w ≤ 2 ^ (w + m) = pow_mono {i = w} {j = w + m} (omega arith) in
    let small : v < 2 ^ (w + m) = omega arith in
    rw (e, mod-eq_of_lt small) refl

-- r is q * m - (q - v), where q is p * m
sign-over : (all q p m v r : ℕ) → all ≡ q * m → q ≡ p * m → p ≤ q → 0 < m → v ≤ q → r ≡ all - (q - v) → r / m + p ≡ v / m + q
sign-over all q p m v r e f h above below g =
    let t : (q - p) + p ≡ q = omega arith in
    let products : ((q - p) + p) * m ≡ q * m = ap (λ y. y * m) t in
    let parts : r ≡ (q - p) * m + v = omega (arith, products) in
    let d : ((q - p) * m + v) / m ≡ (q - p) + v / m = mul-add-div_right above (q - p) v in
    rw (parts, d) (omega arith)

-- a negative value moved to the right has all bits set but those that are kept
pub signed-right : (signed : Bool) (w v n : ℕ) → v < 2 ^ w → signed ≡ true → is_negative w v ≡ true →
    resized signed w (w + min n w) v / 2 ^ min n w + 2 ^ (w - n) ≡ v / 2 ^ min n w + 2 ^ w
signed-right signed w v n fits e f =
    let m = min n w in
    let k : (w - n) + m ≡ w = omega arith in
    let whole : 2 ^ w ≡ 2 ^ (w - n) * 2 ^ m = rw (← pow-add 2 (w - n) m, k) refl in
    let kept : 2 ^ (w - n) ≤ 2 ^ w = pow_mono {i = w - n} {j = w} (omega arith) in
    let wide : 2 ^ w ≤ 2 ^ (w + m) = pow_mono {i = w} {j = w + m} (omega arith) in
    let above : 0 < v = above-zero w v f in
    let moved : resized signed w (w + m) v ≡ 2 ^ (w + m) - (2 ^ w - v)
    = rw (e, f) (wrapped-negative (w + m) (2 ^ w - v) (omega arith) (omega arith)) in
    sign-over (2 ^ (w + m)) (2 ^ w) (2 ^ (w - n)) (2 ^ m) v (resized signed w (w + m) v)
    (pow-add 2 w m) whole kept (pow_pos m) (omega arith) moved
