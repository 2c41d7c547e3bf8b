-- Which word of a memory an address names (IEEE 1364-2005, clause 5.2.2).
use Rattle.std.proofs.Common.{◌≡◌, ℕ, suc, ◌+◌, ◌-◌, ◌^◌, ◌%◌, ◌<◌, ◌≤◌, ℤ, Bool, true, false, inl, inr, refl, sym, ap, ◌∙◌, arith, mod-eq_of_lt, nat_lt}
use Rattle.std.specs.Prelude.{pos, negsuc, ◌+ℤ◌, ◌-ℤ◌, int_le, int_lt, ◌&&◌, ◌⊎◌, if◌then◌else◌, Some}
use Rattle.std.specs.Int.RustNames.{unsigned_abs}
use Rattle.std.proofs.lemmas.Bool.{ltb-true}
use Rattle.std.proofs.lemmas.Int.{ints}
use Rattle.vl_base.specs.Value.{wrapped}
use Rattle.vl_base.proofs.Congruent.{wrapped-again, wrapped-gap}
use Rattle.vl_base.proofs.Readings.{FitsIn}
use Rattle.vl_base.proofs.Wrapping.{wrapped-cut}
use Rattle.vl_design.specs.Syntax.{Row}
use Rattle.vl_design.specs.Value.{word_at}
use Rattle.cell_expr.specs.Words.{found_in}
pub use Rattle.vl_base.proofs.Numbers.{lt_or_le as halves}

-- the address is one of so many from the lowest one on
abbrev pub within : ℤ → ℤ → ℕ → Bool
within lowest z words = int_le lowest z && int_lt z (lowest +ℤ pos words)

-- ---- how far an address is behind the lowest one

within-far : (lowest z : ℤ) (words n : ℕ) → z -ℤ lowest ≡ pos n → within lowest z words ≡ nat_lt n words
within-far lowest z words n e = of (halves n words)
  where
    of : (n < words) ⊎ (words ≤ n) → within lowest z words ≡ nat_lt n words
    of (inl h) =
        let yes : within lowest z words ≡ true = grind (arith, ints) in
        let less : nat_lt n words ≡ true = grind arith in
        yes ∙ sym less
    of (inr h) =
        let no : within lowest z words ≡ false = grind (arith, ints) in
        let more : nat_lt n words ≡ false = grind arith in
        no ∙ sym more

within-before : (lowest z : ℤ) (words n : ℕ) → z -ℤ lowest ≡ negsuc n → within lowest z words ≡ false
within-before lowest z words n e = grind (arith, ints)

-- 128 bits tell how far it is
abbrev IsTold : ℤ → Type 0
IsTold (pos n) = n < 2 ^ 128
IsTold (negsuc n) = n + 2 ^ 32 < 2 ^ 128

told : (lowest z d : ℤ) (words : ℕ) → z -ℤ lowest ≡ d → IsTold d → words ≤ 2 ^ 32 → nat_lt (wrapped 128 d) words ≡ within lowest z words
told lowest z (pos n) words e h k = ap (λ y. nat_lt y words) (mod-eq_of_lt h) ∙ sym (within-far lowest z words n e)
told lowest z (negsuc n) words e h k =
    let same : n % 2 ^ 128 ≡ n = mod-eq_of_lt (omega (arith, h)) in
    let no : nat_lt ((2 ^ 128 - 1) - n) words ≡ false = grind arith in
    ap (λ y. nat_lt ((2 ^ 128 - 1) - y) words) same ∙ no ∙ sym (within-before lowest z words n e)

signed-told : (lowest z d : ℤ) → z -ℤ lowest ≡ d → unsigned_abs lowest < 2 ^ 64 → FitsIn true 128 z → IsTold d
signed-told (pos l) (pos n) (pos k) e h f = omega (arith, ints, e, h, f)
signed-told (pos l) (pos n) (negsuc k) e h f = omega (arith, ints, e, h, f)
signed-told (pos l) (negsuc n) (pos k) e h f = omega (arith, ints, e, h, f)
signed-told (pos l) (negsuc n) (negsuc k) e h f = omega (arith, ints, e, h, f)
signed-told (negsuc l) (pos n) (pos k) e h f = omega (arith, ints, e, h, f)
signed-told (negsuc l) (pos n) (negsuc k) e h f = omega (arith, ints, e, h, f)
signed-told (negsuc l) (negsuc n) (pos k) e h f = omega (arith, ints, e, h, f)
signed-told (negsuc l) (negsuc n) (negsuc k) e h f = omega (arith, ints, e, h, f)

unsigned-told : (l : ℕ) (z d : ℤ) → z -ℤ pos l ≡ d → l < 2 ^ 64 → FitsIn false 128 z → IsTold d
unsigned-told l (pos n) (pos k) e h f = omega (arith, ints, e, h, f)
unsigned-told l (pos n) (negsuc k) e h f = omega (arith, ints, e, h, f)
unsigned-told l (negsuc n) d e h f = absurd f

-- words from address 0 on
from-zero : (l v words : ℕ) → v < 2 ^ 128 → nat_lt (v % 2 ^ 128) (words - suc l) ≡ within (negsuc l) (pos v) words
from-zero l v words h =
    let e : pos v -ℤ negsuc l ≡ pos (v + suc l) = omega (arith, ints) in
    ap (λ y. nat_lt y (words - suc l)) (mod-eq_of_lt h) ∙ of (halves (v + suc l) words) ∙ sym (within-far (negsuc l) (pos v) words (v + suc l) e)
  where
    of : (v + suc l < words) ⊎ (words ≤ v + suc l) → nat_lt v (words - suc l) ≡ nat_lt (v + suc l) words
    of (inl k) =
        let a : nat_lt v (words - suc l) ≡ true = grind arith in
        let b : nat_lt (v + suc l) words ≡ true = grind arith in
        a ∙ sym b
    of (inr k) =
        let a : nat_lt v (words - suc l) ≡ false = grind arith in
        let b : nat_lt (v + suc l) words ≡ false = grind arith in
        a ∙ sym b

none-below : (l : ℕ) → nat_lt l 0 ≡ false
none-below l = grind arith

pub found-is : (signed : Bool) (lowest z : ℤ) (words : ℕ) → unsigned_abs lowest < 2 ^ 64 → words ≤ 2 ^ 32 → FitsIn signed 128 z →
    found_in signed lowest words (wrapped 128 z) (wrapped 128 (z -ℤ lowest)) ≡ within lowest z words
found-is true lowest z words h k f = told lowest z (z -ℤ lowest) words refl (signed-told lowest z (z -ℤ lowest) refl h f) k
found-is false (pos l) z words h k f =
    let none = none-below l in
    ap (λ c. if c then nat_lt (wrapped 128 z) (words - l) else nat_lt (wrapped 128 (z -ℤ pos l)) words) none ∙ told (pos l) z (z -ℤ pos l) words refl (unsigned-told l z (z -ℤ pos l) refl h f) k
found-is false (negsuc l) (pos v) words h k f = from-zero l v words f
found-is false (negsuc l) (negsuc v) words h k f = absurd f

-- ---- the word

pub far-is : (lowest z : ℤ) (words : ℕ) → words ≤ 2 ^ 32 → within lowest z words ≡ true → wrapped 128 (z -ℤ lowest) % 2 ^ 32 ≡ unsigned_abs (z -ℤ lowest)
far-is lowest z words k h = go (z -ℤ lowest) refl
  where
    go : (d : ℤ) → z -ℤ lowest ≡ d → wrapped 128 d % 2 ^ 32 ≡ unsigned_abs d
    go (pos n) e =
        let less : n < words = ltb-true n words (sym (within-far lowest z words n e) ∙ h) in
        wrapped-cut (pos n) 32 128 (omega arith) ∙ mod-eq_of_lt (omega (arith, less, k))
    go (negsuc n) e = let no = within-before lowest z words n e in let y : ⊥ = cc in absurd y

-- the address may be given in 128 bits
pub far-wrapped : (lowest z : ℤ) → wrapped 128 (pos (wrapped 128 z) -ℤ lowest) ≡ wrapped 128 (z -ℤ lowest)
far-wrapped lowest z =
    wrapped-gap 128 (pos (wrapped 128 z)) lowest ∙ ap (λ n. wrapped 128 (pos n -ℤ pos (wrapped 128 lowest))) (wrapped-again 128 z) ∙ sym (wrapped-gap 128 z lowest)

module _ (r : Row) (z : ℤ) where
  pub word-is : within r.lowest z r.words ≡ true → word_at (Some r) z ≡ unsigned_abs (z -ℤ r.lowest)
  word-is e = ap (λ c. if c then unsigned_abs (z -ℤ r.lowest) else r.words) e

  word-past : within r.lowest z r.words ≡ false → word_at (Some r) z ≡ r.words
  word-past e = ap (λ c. if c then unsigned_abs (z -ℤ r.lowest) else r.words) e

  not-past : nat_lt r.words r.words ≡ false
  not-past = grind arith

  few-words : within r.lowest z r.words ≡ true → nat_lt (unsigned_abs (z -ℤ r.lowest)) r.words ≡ true
  few-words h = go (z -ℤ r.lowest) refl
    where
      go : (d : ℤ) → z -ℤ r.lowest ≡ d → nat_lt (unsigned_abs d) r.words ≡ true
      go (pos n) e = sym (within-far r.lowest z r.words n e) ∙ h
      go (negsuc n) e = let no = within-before r.lowest z r.words n e in let y : ⊥ = cc in absurd y

  -- it is there
  pub word-there : nat_lt (word_at (Some r) z) r.words ≡ within r.lowest z r.words
  word-there = of (within r.lowest z r.words) refl
    where
      of : (c : Bool) → within r.lowest z r.words ≡ c → nat_lt (word_at (Some r) z) r.words ≡ within r.lowest z r.words
      of true e = ap (λ n. nat_lt n r.words) (word-is e) ∙ few-words e ∙ sym e
      of false e = ap (λ n. nat_lt n r.words) (word-past e) ∙ not-past ∙ sym e
