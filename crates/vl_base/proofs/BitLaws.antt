-- Laws of single bits.
use Rattle.std.proofs.Common.{◌≡◌, ℕ, zero, suc, ◌+◌, ◌-◌, ◌*◌, ◌/◌, ◌%◌, ◌^◌, ◌<◌, ◌≤◌, ◌↔◌, min, refl, sym, ap, ◌∙◌, inl, inr, arith, subst}
use Rattle.std.specs.Prelude.{ℤ, pos, negsuc, ◌+ℤ◌, ◌-ℤ◌, ◌<ℤ◌, ◌≤ℤ◌, ◌==◌, not}
use Rattle.std.specs.Int.{bit_at, w128, trailing_zeros}
use Rattle.std.proofs.Math.Pow.{pow_pos, pow_mono}
use Rattle.std.proofs.Math.Nat.{mod-eq_of_lt, div-one}
use Rattle.std.proofs.lemmas.Nat.{pow-add, shr_split, shr-shr, mod_low, shr_high, mod_below, shr_below}
use Rattle.std.proofs.lemmas.Nat.Bits.{bit_at_ones, same_from_bits_below, bit_at-zero, bit_at_above, bit_at-trailing_zeros, bit_at_cat_low, bit_at_cat_high, bit_at_not}
use Rattle.std.proofs.lemmas.Bool.{cases_lt}
use Rattle.std.proofs.lemmas.Int.{ints}
use Rattle.vl_base.specs.Value.{truth, inverted}
use Rattle.vl_base.proofs.Wrapping.{not-mod}
use Rattle.vl_base.specs.Selects.{bit_of, picked, placed, with_part, appended}

-- ---- reductions

truth-one : (x y : ℕ) → truth (x == y) ≡ 1 → x ≡ y
truth-one x y e = grind arith

one-truth : (x y : ℕ) → x ≡ y → truth (x == y) ≡ 1
one-truth x y e = grind arith

not-zero-one : (x : ℕ) → truth (not (x == 0)) ≡ 1 → 0 < x
not-zero-one x e = grind arith

one-not-zero : (x : ℕ) → 0 < x → truth (not (x == 0)) ≡ 1
one-not-zero x h = grind arith

-- all bits of a number are set exactly where it is the greatest of its width
pub all-set : (w x : ℕ) → x < 2 ^ w → (truth (x == 2 ^ w - 1) ≡ 1) ↔ ((i : ℕ) → i < w → bit_of x (pos i) ≡ 1)
all-set w x small = (
  λ e i h. rw (truth-one x (2 ^ w - 1) e) (bit_at_ones w i h),
  λ all. one-truth x (2 ^ w - 1)
      (same_from_bits_below w x (2 ^ w - 1) small (omega (arith, pow_pos w)) (λ i h. all i h ∙ sym (bit_at_ones w i h))),
)

set-within : (w x i : ℕ) → x < 2 ^ w → bit_at x i ≡ 1 → i < w
set-within w x i small e =
    elim (cases_lt i w) [ inl h ↦ h | inr h ↦ absurd (let none : bit_at x i ≡ 0 = bit_at_above x w i small h in omega (arith, none)) ]

some-bit : (w x : ℕ) → w ≤ 128 → x < 2 ^ w → 0 < x → (i : ℕ) × (i < w) × (bit_of x (pos i) ≡ 1)
some-bit w x narrow small above =
    let wide : 2 ^ w ≤ 2 ^ 128 = pow_mono {j = 128} narrow in
    let first = bit_at-trailing_zeros w128 x above (omega arith) in
    (trailing_zeros w128 x, set-within w x (trailing_zeros w128 x) small first.1, first.1)

bit-above : (x i : ℕ) → bit_at x i ≡ 1 → 0 < x
bit-above zero i e = absurd (let none : bit_at 0 i ≡ 0 = bit_at-zero i in omega (arith, none))
bit-above (suc n) i e = omega arith

-- some bit of a number is set exactly where it isn't 0
pub some-set : (w x : ℕ) → w ≤ 128 → x < 2 ^ w → (truth (not (x == 0)) ≡ 1) ↔ ((i : ℕ) × (i < w) × (bit_of x (pos i) ≡ 1))
some-set w x narrow small = (λ e. some-bit w x narrow small (not-zero-one x e), λ (i, h, e). one-not-zero x (bit-above x i e))

-- ---- parts

pub low-bits : (n k i : ℕ) → i < k → bit_at (n % 2 ^ k) i ≡ bit_at n i
low-bits n k i h = sym (bit_at_cat_low (n / 2 ^ k) k (n % 2 ^ k) i h) ∙ ap (λ m. bit_at m i) (shr_split n k)

high-bits : (n k i : ℕ) → bit_at (n / 2 ^ k) i ≡ bit_at n (k + i)
high-bits n k i = ap (λ m. m % 2) (shr-shr n k i)

picked-above : (w v low width i : ℕ) → v < 2 ^ w → i < width → bit_at (v / 2 ^ min low w % 2 ^ width) i ≡ bit_at v (low + i)
picked-above w v low width i small h =
    low-bits (v / 2 ^ min low w) width i h ∙ high-bits v (min low w) i
    ∙ elim (cases_lt low w) [
      | inl within ↦ (let m : min low w ≡ low = omega arith in rw m refl)
      | inr past ↦ (let m : min low w ≡ w = omega arith in
          rw m (bit_at_above v w (w + i) small (omega arith) ∙ sym (bit_at_above v w (low + i) small (omega arith))))
    ]

moved-low : (v k i : ℕ) → i < k → bit_at (v * 2 ^ k) i ≡ 0
moved-low v k i h =
    let same : v * 2 ^ k + 0 ≡ v * 2 ^ k = omega arith in
    ap (λ n. bit_at n i) (sym same) ∙ bit_at_cat_low v k 0 i h ∙ bit_at-zero i

moved-high : (v k i : ℕ) → k ≤ i → bit_at (v * 2 ^ k) i ≡ bit_at v (i - k)
moved-high v k i h =
    let same : v * 2 ^ k + 0 ≡ v * 2 ^ k = omega arith in
    ap (λ n. bit_at n i) (sym same) ∙ bit_at_cat_high v k 0 i (pow_pos k) h

picked-below : (v n width i : ℕ) → i < width → bit_at (v * 2 ^ min (suc n) width % 2 ^ width) i ≡ bit_of v (negsuc n +ℤ pos i)
picked-below v n width i h =
    low-bits (v * 2 ^ min (suc n) width) width i h
    ∙ elim (cases_lt i (suc n)) [
      | inl low ↦ (let e : negsuc n +ℤ pos i ≡ negsuc (n - i) = omega (arith, ints) in
          moved-low v (min (suc n) width) i (omega arith) ∙ sym (ap (bit_of v) e))
      | inr high ↦ (let e : negsuc n +ℤ pos i ≡ pos (i - suc n) = omega (arith, ints) in
          let k : min (suc n) width ≡ suc n = omega arith in
          rw k (moved-high v (suc n) i high ∙ sym (ap (bit_of v) e)))
    ]

-- bit i of a select is bit low + i
pub picked-bit : (w v : ℕ) (low : ℤ) (width i : ℕ) → v < 2 ^ w → i < width → bit_of (picked w v low width) (pos i) ≡ bit_of v (low +ℤ pos i)
picked-bit w v (pos low) width i small h = picked-above w v low width i small h
picked-bit w v (negsuc n) width i small h = picked-below v n width i h

-- ---- a part written

split-part : (v l width part : ℕ) → with_part v l width part ≡ (v / 2 ^ (l + width) * 2 ^ width + part) * 2 ^ l + v % 2 ^ l
split-part v l width part = rw (pow-add 2 l width) (omega arith)

part-below : (v l width part i : ℕ) → i < l → bit_at (with_part v l width part) i ≡ bit_at v i
part-below v l width part i h =
    ap (λ n. bit_at n i) (split-part v l width part)
    ∙ bit_at_cat_low (v / 2 ^ (l + width) * 2 ^ width + part) l (v % 2 ^ l) i h ∙ low-bits v l i h

part-from : (v l width part i : ℕ) → l ≤ i → bit_at (with_part v l width part) i ≡ bit_at (v / 2 ^ (l + width) * 2 ^ width + part) (i - l)
part-from v l width part i h =
    ap (λ n. bit_at n i) (split-part v l width part)
    ∙ bit_at_cat_high (v / 2 ^ (l + width) * 2 ^ width + part) l (v % 2 ^ l) i (mod_below v (2 ^ l) (pow_pos l)) h

part-inside : (v l width part i : ℕ) → l ≤ i → i < l + width → bit_at (with_part v l width part) i ≡ bit_at part (i - l)
part-inside v l width part i h k =
    part-from v l width part i h ∙ bit_at_cat_low (v / 2 ^ (l + width)) width part (i - l) (omega arith)

part-above : (v l width part i : ℕ) → part < 2 ^ width → l + width ≤ i → bit_at (with_part v l width part) i ≡ bit_at v i
part-above v l width part i small h =
    let e : l + width + (i - l - width) ≡ i = omega arith in
    part-from v l width part i (omega arith)
    ∙ bit_at_cat_high (v / 2 ^ (l + width)) width part (i - l) small (omega arith)
    ∙ high-bits v (l + width) (i - l - width) ∙ ap (bit_at v) e

pub placed-below-it : (w v : ℕ) (low : ℤ) (width part i : ℕ) → i < w → pos i <ℤ low → bit_of (placed w v low width part) (pos i) ≡ bit_of v (pos i)
placed-below-it w v (pos low) width part i h k =
    let l = min low w in
    low-bits (with_part v l width part) w i h ∙ part-below v l width part i (omega (arith, ints))
placed-below-it w v (negsuc n) width part i h k = absurd (omega (arith, ints))

inside-below : (w v n width part i : ℕ) → i < w → suc n + i < width → bit_of (placed w v (negsuc n) width part) (pos i) ≡ bit_at part (suc n + i)
inside-below w v n width part i h k =
    let m : min (suc n) width ≡ suc n = omega arith in
    rw m
    (low-bits (with_part v 0 (width - suc n) (part / 2 ^ suc n)) w i h
    ∙ part-inside v 0 (width - suc n) (part / 2 ^ suc n) i (omega arith) (omega arith)
    ∙ high-bits part (suc n) (i - 0) ∙ ap (bit_at part) (omega arith))

pub placed-inside-it : (w v : ℕ) (low : ℤ) (width part i : ℕ) → i < w → low ≤ℤ pos i → pos i <ℤ (low +ℤ pos width) → bit_of (placed w v low width part) (pos i) ≡ bit_of part (pos i -ℤ low)
placed-inside-it w v (pos low) width part i h k m =
    let l : min low w ≡ low = omega (arith, ints) in
    let e : pos i -ℤ pos low ≡ pos (i - low) = omega (arith, ints) in
    rw l
    (low-bits (with_part v low width part) w i h
    ∙ part-inside v low width part i (omega (arith, ints)) (omega (arith, ints)) ∙ sym (ap (bit_of part) e))
placed-inside-it w v (negsuc n) width part i h k m =
    let e : pos i -ℤ negsuc n ≡ pos (suc n + i) = omega (arith, ints) in
    inside-below w v n width part i h (omega (arith, ints)) ∙ sym (ap (bit_of part) e)

above-below : (w v n width part i : ℕ) → part < 2 ^ width → i < w → width ≤ suc n + i → bit_of (placed w v (negsuc n) width part) (pos i) ≡ bit_at v i
above-below w v n width part i small h k =
    let m = min (suc n) width in
    let e : width ≡ (width - m) + m = omega arith in
    let below : part < 2 ^ ((width - m) + m) = rw (← e) small in
    low-bits (with_part v 0 (width - m) (part / 2 ^ m)) w i h
    ∙ part-above v 0 (width - m) (part / 2 ^ m) i (shr_below part (width - m) m below) (omega arith)

pub placed-above-it : (w v : ℕ) (low : ℤ) (width part i : ℕ) → part < 2 ^ width → i < w → (low +ℤ pos width) ≤ℤ pos i → bit_of (placed w v low width part) (pos i) ≡ bit_of v (pos i)
placed-above-it w v (pos low) width part i small h k =
    let l : min low w ≡ low = omega (arith, ints) in
    rw l
    (low-bits (with_part v low width part) w i h ∙ part-above v low width part i small (omega (arith, ints)))
placed-above-it w v (negsuc n) width part i small h k = above-below w v n width part i small h (omega (arith, ints))

-- a part that was written inside a value is there
pub part-is-there : (w v : ℕ) (low : ℤ) (width part : ℕ) → part < 2 ^ width → placed w v low width part < 2 ^ w → pos 0 ≤ℤ low → (low +ℤ pos width) ≤ℤ pos w →
    picked w (placed w v low width part) low width ≡ part
part-is-there w v (negsuc n) width part small fits h k = absurd (omega (arith, ints))
part-is-there w v (pos low) width part small fits h k =
    let got = picked w (placed w v (pos low) width part) (pos low) width in
    let below : got < 2 ^ width = mod_below (placed w v (pos low) width part / 2 ^ min low w) (2 ^ width) (pow_pos width) in
    same_from_bits_below width got part below small
    (λ i within.
    let e : pos (low + i) -ℤ pos low ≡ pos i = omega (arith, ints) in
    picked-bit w (placed w v (pos low) width part) (pos low) width i fits within
    ∙ placed-inside-it w v (pos low) width part (low + i) (omega (arith, ints)) (omega (arith, ints)) (omega (arith, ints))
    ∙ ap (bit_of part) e)

-- ---- side by side

pub appended-low : (high hw low lw : ℕ) → low < 2 ^ lw → picked (hw + lw) (appended high lw low) (pos 0) lw ≡ low
appended-low high hw low lw small =
    let none : min 0 (hw + lw) ≡ 0 = omega arith in
    rw (none, div-one (high * 2 ^ lw + low)) (mod_low high lw low small)

pub appended-high : (high hw low lw : ℕ) → high < 2 ^ hw → low < 2 ^ lw → picked (hw + lw) (appended high lw low) (pos lw) hw ≡ high
appended-high high hw low lw small_high small =
    let m : min lw (hw + lw) ≡ lw = omega arith in
    rw (m, shr_high high lw low small) (mod-eq_of_lt small_high)

-- ---- operators on each bit

pub inverted-bit : (w x i : ℕ) → w ≤ 128 → x < 2 ^ w → i < w → bit_at (inverted w x) i ≡ 1 - bit_at x i
inverted-bit w x i narrow small h =
    let k : 128 ≡ (128 - w) + w = omega arith in
    let wide : 2 ^ w ≤ 2 ^ 128 = pow_mono {j = 128} narrow in
    let fits : x < 2 ^ 128 = omega arith in
    let within : x < 2 ^ ((128 - w) + w) = rw (← k) fits in
    let same : ((2 ^ ((128 - w) + w) - 1) - x) % 2 ^ w ≡ inverted w x
    = not-mod x (128 - w) w within ∙ ap (λ n. (2 ^ w - 1) - n) (mod-eq_of_lt small) in
    let P : ℕ → Type 0 = λ m. ((2 ^ m - 1) - x) % 2 ^ w ≡ inverted w x in
    let cut : ((2 ^ 128 - 1) - x) % 2 ^ w ≡ inverted w x = subst P (sym k) same in
    ap (λ n. bit_at n i) (sym cut) ∙ low-bits ((2 ^ 128 - 1) - x) w i h ∙ bit_at_not w128 x i fits (omega arith)
