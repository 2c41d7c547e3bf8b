-- Laws of shifts.
use Rattle.std.proofs.Common.{◌≡◌, ℕ, suc, ◌+◌, ◌-◌, ◌*◌, ◌/◌, ◌%◌, ◌^◌, ◌<◌, ◌≤◌, min, Bool, true, false, refl, sym, ap, ◌∙◌, inl, inr, arith}
use Rattle.std.specs.Prelude.{pos, negsuc}
use Rattle.std.specs.Int.{int_div_euclid}
use Rattle.std.proofs.Math.Pow.{pow_pos, pow_mono}
use Rattle.std.proofs.Math.Nat.{mod-eq_of_lt, div-eq_of_lt, div-eq_of_lt-le, div-le_self, mul-mod_left, mod-lt, mul-le-mul_right}
use Rattle.std.proofs.lemmas.Nat.{pow-add, shr_split}
use Rattle.std.proofs.lemmas.Bool.{cases_lt}
use Rattle.vl_base.specs.Value.{wrapped, reading, is_negative, shifted_left, shifted_right, shifted_right_by_sign}
use Rattle.vl_base.proofs.Shifts.{right-within, right-past, unsigned-right, signed-right}
use Rattle.vl_base.proofs.Readings.{reading-wrapped, not-negative, negative-half, is-low, FitsIn}

right-past-is : (w x n : ℕ) → x < 2 ^ w → w ≤ n → x / 2 ^ min n w ≡ x / 2 ^ n
right-past-is w x n small past =
    let wide : 2 ^ w ≤ 2 ^ n = pow_mono past in
    let none : x / 2 ^ n ≡ 0 = div-eq_of_lt (omega arith) in
    sym (right-past x n w small past) ∙ sym none

pub right-is : (w x n : ℕ) → x < 2 ^ w → shifted_right w x n ≡ x / 2 ^ n
right-is w x n small =
    elim (cases_lt n w) [ inl within ↦ sym (right-within x n w within) | inr past ↦ right-past-is w x n small past ]

left-past-is : (w x n : ℕ) → w ≤ n → x * 2 ^ min n w % 2 ^ w ≡ x * 2 ^ n % 2 ^ w
left-past-is w x n past =
    let m : min n w ≡ w = omega arith in
    let k : n ≡ (n - w) + w = omega arith in
    let more : x * 2 ^ n ≡ x * 2 ^ (n - w) * 2 ^ w = ap (λ e. x * 2 ^ e) k ∙ rw (pow-add 2 (n - w) w) (omega arith) in
    rw (m, more, mul-mod_left x (2 ^ w), mul-mod_left (x * 2 ^ (n - w)) (2 ^ w)) refl

pub left-is : (w x n : ℕ) → shifted_left w x n ≡ x * 2 ^ n % 2 ^ w
left-is w x n =
    elim (cases_lt n w) [ inl within ↦ (let m : min n w ≡ n = omega arith in rw m refl) | inr past ↦ left-past-is w x n past ]

over : (whole p m q t x : ℕ) → whole ≡ p * m → x ≡ q * m + t → x < whole → p ≤ q → ⊥
over whole p m q t x e f small h = let more : p * m ≤ q * m = mul-le-mul_right m h in omega (arith, more)

-- the whole is p parts of m, and x is q parts and a rest: what is left of the whole has the other parts
floor-of : (whole p m q t x b : ℕ) → whole ≡ p * m → x ≡ q * m + t → t < m → x < whole → b + 1 + x ≡ whole → (b / m) + 1 + q ≡ p
floor-of whole p m q t x b e f below small g =
    let above : q < p = elim (cases_lt q p) [ inl h ↦ h | inr h ↦ absurd (over whole p m q t x e f small h) ] in
    let r = p - q - 1 in
    let k : r + 1 + q ≡ p = omega arith in
    let all : (r + 1 + q) * m ≡ p * m = ap (λ n. n * m) k in
    let low : r * m ≤ b = omega (arith, all) in
    let high : b < (r + 1) * m = omega (arith, all) in
    let d : b / m ≡ r = div-eq_of_lt-le m low high in
    omega arith

rounded : (w x n b s : ℕ) → x < 2 ^ w → 2 ^ w ≤ 2 * x → b + 1 + x ≡ 2 ^ w → s + 2 ^ (w - n) ≡ x / 2 ^ min n w + 2 ^ w →
    reading true w s ≡ negsuc (b / 2 ^ n)
rounded w x n b s small half e f =
    let m = min n w in
    let k : (w - n) + m ≡ w = omega arith in
    let whole : 2 ^ w ≡ 2 ^ (w - n) * 2 ^ m = rw (← pow-add 2 (w - n) m, k) refl in
    let parts : x ≡ x / 2 ^ m * 2 ^ m + x % 2 ^ m = sym (shr_split x m) in
    let floor : (b / 2 ^ m) + 1 + x / 2 ^ m ≡ 2 ^ (w - n)
    = floor-of (2 ^ w) (2 ^ (w - n)) (2 ^ m) (x / 2 ^ m) (x % 2 ^ m) x b whole parts (mod-lt x (pow_pos m)) small e in
    let same : b / 2 ^ m ≡ b / 2 ^ n = right-is w b n (omega arith) in
    let less : b / 2 ^ n ≤ b = div-le_self b (2 ^ n) in
    let fits : FitsIn true w (negsuc (b / 2 ^ n)) = omega (arith, less) in
    let low : b / 2 ^ n % 2 ^ w ≡ b / 2 ^ n = mod-eq_of_lt (omega (arith, less)) in
    let value : s ≡ wrapped w (negsuc (b / 2 ^ n)) = rw low (omega (arith, floor, same, f)) in
    ap (reading true w) value ∙ reading-wrapped true w (negsuc (b / 2 ^ n)) fits

negative-reading : (w x b : ℕ) → is_negative w x ≡ true → b + 1 + x ≡ 2 ^ w → reading true w x ≡ negsuc b
negative-reading w x b e f = let back : 2 ^ w - x ≡ suc b = omega arith in rw (e, back) refl

plain : (w x n : ℕ) → x < 2 ^ w → is_negative w x ≡ false → reading true w (shifted_right_by_sign true w x n) ≡ int_div_euclid (reading true w x) (pos (2 ^ n))
plain w x n small e =
    let moved : shifted_right_by_sign true w x n ≡ x / 2 ^ n = unsigned-right true w x (min n w) small e ∙ right-is w x n small in
    let less : x / 2 ^ n ≤ x = div-le_self x (2 ^ n) in
    let below = not-negative w x e in
    let low : is_negative w (x / 2 ^ n) ≡ false = is-low w (x / 2 ^ n) (omega (arith, less, below)) in
    rw (moved, e, low) refl

by-sign : (w x n : ℕ) (top : Bool) → is_negative w x ≡ top → x < 2 ^ w → reading true w (shifted_right_by_sign true w x n) ≡ int_div_euclid (reading true w x) (pos (2 ^ n))
by-sign w x n false e small = plain w x n small e
by-sign w x n true e small =
    let b = 2 ^ w - x - 1 in
    let g : b + 1 + x ≡ 2 ^ w = omega arith in
    rounded w x n b (shifted_right_by_sign true w x n) small (negative-half w x e) g (signed-right true w x n small refl e)
    ∙ ap (λ z. int_div_euclid z (pos (2 ^ n))) (sym (negative-reading w x b e g))

-- a value moved to the right by sign is what it stands for, divided and rounded down
pub right-by-sign-is : (w x n : ℕ) → x < 2 ^ w → reading true w (shifted_right_by_sign true w x n) ≡ int_div_euclid (reading true w x) (pos (2 ^ n))
right-by-sign-is w x n small = by-sign w x n (is_negative w x) refl small
