-- Parts of a number, cut out and put in.
use Rattle.std.proofs.Common.{◌≡◌, ℕ, ◌+◌, ◌-◌, ◌*◌, ◌/◌, ◌%◌, ◌^◌, ◌<◌, ◌≤◌, min, sym, ap, ◌∙◌, arith}
use Rattle.std.specs.Prelude.{ℤ, pos, negsuc, ◌<ℤ◌, unsigned_abs, suc}
use Rattle.std.proofs.Math.Pow.{pow_mono}
use Rattle.std.proofs.Math.Nat.{mod-eq_of_lt, div-eq_of_lt, mod-le, add-mod-mod, add-mul-mod_self_right, div-one, mod-one}
use Rattle.std.proofs.lemmas.Nat.{pow-add, shr_split, mul-add-lt}
use Rattle.std.proofs.lemmas.Int.{ints}
use Rattle.vl_base.specs.Selects.{with_part, placed}
use Rattle.vl_base.proofs.Wrapping.{mod-mod_below}

pub joined-below : (a b j k : ℕ) → a < 2 ^ j → b < 2 ^ k → a * 2 ^ k + b < 2 ^ (j + k)
joined-below a b j k h l =
    let below : a * 2 ^ k + b < 2 ^ k * 2 ^ j = mul-add-lt a (2 ^ k) b (2 ^ j) h l in
    let whole : 2 ^ (j + k) ≡ 2 ^ j * 2 ^ k = pow-add 2 j k in
    omega arith

pub no-high : (v w n : ℕ) → v < 2 ^ w → w ≤ n → v / 2 ^ n ≡ 0
no-high v w n fits past =
    let wide : 2 ^ w ≤ 2 ^ n = pow_mono past in
    div-eq_of_lt (omega arith)

pub nothing-above : (v n : ℕ) → v < 2 ^ 128 → 128 ≤ n → 0 ≡ v / 2 ^ n * 2 ^ n
nothing-above v n fits past = rw (no-high v 128 n fits past) (omega arith)

-- a part written past the end
pub placed-past : (w v l width part : ℕ) → v < 2 ^ w → w ≤ l → v ≡ with_part v (min l w) width part % 2 ^ w
placed-past w v l width part fits past =
    let m : min l w ≡ w = omega arith in
    let high : v / 2 ^ (w + width) ≡ 0 = no-high v w (w + width) fits (omega arith) in
    let low : v % 2 ^ w ≡ v = mod-eq_of_lt fits in
    let turned : 0 * 2 ^ (w + width) + part * 2 ^ w + v ≡ v + part * 2 ^ w = omega arith in
    rw (m, high, low, turned, add-mul-mod_self_right v part (2 ^ w)) (sym low)

-- the bits above a part and below it are at most the number
pub kept-below : (v l e : ℕ) → l ≤ e → v / 2 ^ e * 2 ^ e + v % 2 ^ l ≤ v
kept-below v l e h =
    let cut : v % 2 ^ e % 2 ^ l ≡ v % 2 ^ l = mod-mod_below v l e h in
    let less : v % 2 ^ e % 2 ^ l ≤ v % 2 ^ e = mod-le (v % 2 ^ e) (2 ^ l) in
    omega (arith, shr_split v e)

pub placed-within : (w v l width part : ℕ) → w ≤ 128 → l < w →
    ((v / 2 ^ (l + width) * 2 ^ (l + width) + v % 2 ^ l) + part * 2 ^ l % 2 ^ 128) % 2 ^ 128 % 2 ^ w ≡ with_part v (min l w) width part % 2 ^ w
placed-within w v l width part narrow within =
    let m : min l w ≡ l = omega arith in
    let kept = v / 2 ^ (l + width) * 2 ^ (l + width) in
    let turned : (kept + v % 2 ^ l) + part * 2 ^ l ≡ kept + part * 2 ^ l + v % 2 ^ l = omega arith in
    rw m
    (ap (λ n. n % 2 ^ w) (add-mod-mod (kept + v % 2 ^ l) (part * 2 ^ l) (2 ^ 128))
    ∙ mod-mod_below ((kept + v % 2 ^ l) + part * 2 ^ l) w 128 narrow ∙ ap (λ n. n % 2 ^ w) turned)

-- a part written before the start
pub placed-before : (w v : ℕ) (low : ℤ) (width part : ℕ) → v < 2 ^ w → part < 2 ^ width → low <ℤ pos 0 → width ≤ unsigned_abs low → v ≡ placed w v low width part
placed-before w v (pos n) width part fits small below past = absurd (omega (arith, ints))
placed-before w v (negsuc n) width part fits small below past =
    let m : min (suc n) width ≡ width = omega arith in
    let none : width - width ≡ 0 = omega arith in
    let gone : part / 2 ^ width ≡ 0 = div-eq_of_lt small in
    let whole : with_part v 0 0 0 ≡ v = rw (div-one v, mod-one v) (omega arith) in
    rw (m, none, gone) (sym (ap (λ x. x % 2 ^ w) whole ∙ mod-eq_of_lt fits))
