-- Placing a part in an update value and ones in its mask places the part in what they make of a value.
use Rattle.std.proofs.Common.{◌≡◌, ℕ, suc, ◌+◌, ◌-◌, ◌*◌, ◌%◌, ◌^◌, ◌<◌, ◌≤◌, sym, ap, ◌∙◌, inl, inr, arith, mod-eq_of_lt, add_comm}
use Rattle.std.specs.Prelude.{ℤ, pos, negsuc, ◌⊎◌, ◌+ℤ◌, ◌-ℤ◌, ◌<ℤ◌, ◌≤ℤ◌, ◌==◌, if◌then◌else◌, bit_and, bit_xor}
use Rattle.std.specs.Int.{bit_at}
use Rattle.std.specs.Int.Bits.{and_zero_r, xor_zero_r}
use Rattle.std.proofs.Math.Pow.{pow_pos}
use Rattle.std.proofs.Math.Arith.{mul_pred}
use Rattle.std.proofs.Math.Nat.{add-mul-mod_self_right}
use Rattle.std.proofs.lemmas.Nat.{xor_lt, and_le_l, mod_below, pow-add}
use Rattle.std.proofs.lemmas.Nat.Bits.{bit_at_ones, same_from_bits_below}
use Rattle.std.proofs.lemmas.Int.{ints}
use Rattle.std.proofs.lemmas.Bool.{cases_lt}
use Rattle.vl_base.specs.Selects.{placed, bit_of}
use Rattle.vl_base.proofs.BitLaws.{placed-below-it, placed-inside-it, placed-above-it}
use Rattle.cell_form.specs.Cycle.{masked}
use Rattle.cell_form.proofs.Writing.{masked-bit}
pub use Rattle.vl_base.proofs.Bounds.{placed-below}
pub use Rattle.cell_form.proofs.Shared.{masked-none}

-- one bit
abbrev chosen : ℕ → ℕ → ℕ → ℕ
chosen v u m = if m == 0 then v else u

and-below : (w a b : ℕ) → a < 2 ^ w → bit_and a b < 2 ^ w
and-below w a b h = let k = and_le_l a b in omega arith

pub masked-below : (w v u m : ℕ) → v < 2 ^ w → u < 2 ^ w → masked v u m < 2 ^ w
masked-below w v u m h k = xor_lt w v _ h (and-below w (bit_xor v u) m (xor_lt w v u h k))

-- ---- where a bit lies: below the part, in it, or above it

abbrev Lies : ℕ → ℤ → ℕ → Type 0
Lies i low width = (pos i <ℤ low) ⊎ (((low ≤ℤ pos i) × (pos i <ℤ (low +ℤ pos width))) ⊎ ((low +ℤ pos width) ≤ℤ pos i))

lies-from : (i l width : ℕ) → Lies i (pos l) width
lies-from i l width = elim (cases_lt i l) [
  | inl b ↦ inl (omega (arith, ints))
  | inr a ↦ elim (cases_lt i (l + width)) [ inl b ↦ inr (inl (omega (arith, ints), omega (arith, ints))) | inr c ↦ inr (inr (omega (arith, ints))) ]
]

lies-below : (i n width : ℕ) → Lies i (negsuc n) width
lies-below i n width = elim (cases_lt (suc n + i) width) [ inl b ↦ inr (inl (omega (arith, ints), omega (arith, ints))) | inr c ↦ inr (inr (omega (arith, ints))) ]

lies : (i : ℕ) (low : ℤ) (width : ℕ) → Lies i low width
lies i (pos l) width = lies-from i l width
lies i (negsuc n) width = lies-below i n width

ones-inside : (i : ℕ) (low : ℤ) (width : ℕ) → low ≤ℤ pos i → pos i <ℤ (low +ℤ pos width) → bit_of (2 ^ width - 1) (pos i -ℤ low) ≡ 1
ones-inside i (pos l) width h k =
    let e : pos i -ℤ pos l ≡ pos (i - l) = omega (arith, ints) in
    ap (bit_of (2 ^ width - 1)) e ∙ bit_at_ones width (i - l) (omega (arith, ints))
ones-inside i (negsuc n) width h k =
    let e : pos i -ℤ negsuc n ≡ pos (suc n + i) = omega (arith, ints) in
    ap (bit_of (2 ^ width - 1)) e ∙ bit_at_ones width (suc n + i) (omega (arith, ints))

-- ---- a part placed

placed-bits : (w v u m : ℕ) (low : ℤ) (width part i : ℕ) → part < 2 ^ width → i < w → Lies i low width →
    bit_at (placed w (masked v u m) low width part) i ≡ chosen (bit_at v i) (bit_at (placed w u low width part) i) (bit_at (placed w m low width (2 ^ width - 1)) i)
placed-bits w v u m low width part i small h (inl b) =
    placed-below-it w (masked v u m) low width part i h b ∙ masked-bit v u m i
    ∙ sym (ap (λ x. chosen (bit_at v i) x (bit_at (placed w m low width (2 ^ width - 1)) i)) (placed-below-it w u low width part i h b)
    ∙ ap (λ x. chosen (bit_at v i) (bit_at u i) x) (placed-below-it w m low width (2 ^ width - 1) i h b))
placed-bits w v u m low width part i small h (inr (inl (a, b))) =
    let one = placed-inside-it w m low width (2 ^ width - 1) i h a b ∙ ones-inside i low width a b in
    placed-inside-it w (masked v u m) low width part i h a b ∙ sym (placed-inside-it w u low width part i h a b)
    ∙ sym (ap (λ x. chosen (bit_at v i) (bit_at (placed w u low width part) i) x) one)
placed-bits w v u m low width part i small h (inr (inr a)) =
    let ones : 2 ^ width - 1 < 2 ^ width = let p = pow_pos width in omega arith in
    placed-above-it w (masked v u m) low width part i small h a ∙ masked-bit v u m i
    ∙ sym (ap (λ x. chosen (bit_at v i) x (bit_at (placed w m low width (2 ^ width - 1)) i)) (placed-above-it w u low width part i small h a)
    ∙ ap (λ x. chosen (bit_at v i) (bit_at u i) x) (placed-above-it w m low width (2 ^ width - 1) i ones h a))

pub masked-placed : (w v u m : ℕ) (low : ℤ) (width part : ℕ) → v < 2 ^ w → part < 2 ^ width →
    placed w (masked v u m) low width part ≡ masked v (placed w u low width part) (placed w m low width (2 ^ width - 1))
masked-placed w v u m low width part fits small =
    same_from_bits_below w _ _ (placed-below w (masked v u m) low width part) (masked-below w v _ _ fits (placed-below w u low width part))
    (λ i h. placed-bits w v u m low width part i small h (lies i low width) ∙ sym (masked-bit v (placed w u low width part) (placed w m low width (2 ^ width - 1)) i))

-- a word that only this part is written to
pub masked-word : (w v : ℕ) (low : ℤ) (width part : ℕ) → v < 2 ^ w → part < 2 ^ width →
    masked v (placed w 0 low width part) (placed w 0 low width (2 ^ width - 1)) ≡ placed w v low width part
masked-word w v low width part fits small = sym (masked-placed w v 0 0 low width part fits small) ∙ ap (λ x. placed w x low width part) (masked-none v 0)

-- ones, as many as the width says
pub cut-ones : (w : ℕ) → w ≤ 128 → (2 ^ 128 - 1) % 2 ^ w ≡ 2 ^ w - 1
cut-ones w h =
    let p = pow_pos w in
    let sum : 128 ≡ (128 - w) + w = omega arith in
    let e : 2 ^ 128 ≡ 2 ^ (128 - w) * 2 ^ w = ap (λ n. 2 ^ n) sum ∙ pow-add 2 (128 - w) w in
    let below : 2 ^ w - 1 < 2 ^ w = omega (arith, p) in
    ap (λ n. (n - 1) % 2 ^ w) e ∙ ap (λ n. n % 2 ^ w) (mul_pred (pow_pos (128 - w)) p ∙ add_comm ((2 ^ (128 - w) - 1) * 2 ^ w) (2 ^ w - 1))
    ∙ add-mul-mod_self_right (2 ^ w - 1) (2 ^ (128 - w) - 1) (2 ^ w) ∙ mod-eq_of_lt below
