-- Laws of sums, products, quotients and remainders.
use Rattle.std.proofs.Common.{◌≡◌, ℕ, zero, suc, ◌+◌, ◌*◌, ◌%◌, ◌^◌, ◌<◌, ◌≤◌, ◌≢◌, Bool, false, ◌==◌, refl, sym, ap, ◌∙◌, arith}
use Rattle.std.specs.Prelude.{ℤ, pos, negsuc, ◌+ℤ◌, ◌-ℤ◌, ◌*ℤ◌, ◌≤ℤ◌, int_div, int_rem, unsigned_abs}
use Rattle.std.proofs.lemmas.Int.{ints, quot-rem, rem_below}
use Rattle.std.proofs.Math.Nat.{zero-mod}
use Rattle.vl_base.specs.Value.{wrapped, reading, resized, quotient, remainder}
use Rattle.vl_base.proofs.Wrapping.{wrapped-cut}
use Rattle.vl_base.proofs.Congruent.{wrapped-sum, wrapped-product, wrapped-gap, wrapped-below}
use Rattle.vl_base.proofs.Readings.{wrapped-reading, reading-wrapped, reading-fits, rem-fits, fits-wider}

module _ (signed : Bool) (w x y : ℕ) (small_x : x < 2 ^ w) (small_y : y < 2 ^ w) where
  pub sum-readings : (x + y) % 2 ^ w ≡ wrapped w (reading signed w x +ℤ reading signed w y)
  sum-readings =
      sym
      (wrapped-sum w (reading signed w x) (reading signed w y)
      ∙ ap (λ n. (n + wrapped w (reading signed w y)) % 2 ^ w) (wrapped-reading signed w x small_x)
      ∙ ap (λ n. (x + n) % 2 ^ w) (wrapped-reading signed w y small_y))

  pub product-readings : x * y % 2 ^ w ≡ wrapped w (reading signed w x *ℤ reading signed w y)
  product-readings =
      sym
      (wrapped-product w (reading signed w x) (reading signed w y)
      ∙ ap (λ n. n * wrapped w (reading signed w y) % 2 ^ w) (wrapped-reading signed w x small_x)
      ∙ ap (λ n. x * n % 2 ^ w) (wrapped-reading signed w y small_y))

  pub difference-readings : wrapped w (pos x -ℤ pos y) ≡ wrapped w (reading signed w x -ℤ reading signed w y)
  difference-readings =
      sym
      (wrapped-gap w (reading signed w x) (reading signed w y)
      ∙ ap (λ n. wrapped w (pos n -ℤ pos (wrapped w (reading signed w y)))) (wrapped-reading signed w x small_x)
      ∙ ap (λ n. wrapped w (pos x -ℤ pos n)) (wrapped-reading signed w y small_y))

pub not-zero : (y : ℕ) → y ≢ 0 → (y == 0) ≡ false
not-zero y h = grind arith

quotient-is : (signed : Bool) (w x y : ℕ) → y ≢ 0 → quotient signed w x y ≡ wrapped w (int_div (reading signed w x) (reading signed w y))
quotient-is signed w x y h = rw (not-zero y h) refl

remainder-is : (signed : Bool) (w x y : ℕ) → y ≢ 0 → remainder signed w x y ≡ wrapped w (int_rem (reading signed w x) (reading signed w y))
remainder-is signed w x y h = rw (not-zero y h) refl

size-by : (w : ℕ) (z : ℤ) (y : ℕ) → wrapped w z ≡ y → y ≢ 0 → 0 < unsigned_abs z
size-by w (pos zero) y e h = absurd (h (sym e ∙ zero-mod (2 ^ w)))
size-by w (pos (suc n)) y e h = omega arith
size-by w (negsuc n) y e h = omega arith

remainder-at-least : (a d : ℤ) → pos 0 ≤ℤ a → pos 0 ≤ℤ int_rem a d
remainder-at-least (pos n) d h = omega (arith, ints)
remainder-at-least (negsuc n) d h = absurd (omega (arith, ints))

remainder-at-most : (a d : ℤ) → a ≤ℤ pos 0 → int_rem a d ≤ℤ pos 0
remainder-at-most (pos zero) d h = rw (zero-mod (unsigned_abs d)) (omega (arith, ints))
remainder-at-most (pos (suc n)) d h = absurd (omega (arith, ints))
remainder-at-most (negsuc n) d h = omega (arith, ints)

module _ (signed : Bool) (w x y : ℕ) (small_x : x < 2 ^ w) (small_y : y < 2 ^ w) (nonzero : y ≢ 0) where
  pub quotient-and-remainder : (quotient signed w x y * y % 2 ^ w + remainder signed w x y) % 2 ^ w ≡ x
  quotient-and-remainder =
      let a = reading signed w x in
      let b = reading signed w y in
      let q = int_div a b in
      let r = int_rem a b in
      ap (λ n. (n * y % 2 ^ w + remainder signed w x y) % 2 ^ w) (quotient-is signed w x y nonzero)
      ∙ ap (λ n. (wrapped w q * y % 2 ^ w + n) % 2 ^ w) (remainder-is signed w x y nonzero)
      ∙ ap (λ n. (wrapped w q * n % 2 ^ w + wrapped w r) % 2 ^ w) (sym (wrapped-reading signed w y small_y))
      ∙ ap (λ n. (n + wrapped w r) % 2 ^ w) (sym (wrapped-product w q b))
      ∙ sym (wrapped-sum w (q *ℤ b) r) ∙ ap (wrapped w) (quot-rem a b) ∙ wrapped-reading signed w x small_x

  pub remainder-reading : reading signed w (remainder signed w x y) ≡ int_rem (reading signed w x) (reading signed w y)
  remainder-reading =
      let a = reading signed w x in
      let b = reading signed w y in
      ap (reading signed w) (remainder-is signed w x y nonzero)
      ∙ reading-wrapped signed w (int_rem a b) (rem-fits signed w a b (reading-fits signed w x small_x))

  pub remainder-less : unsigned_abs (reading signed w (remainder signed w x y)) < unsigned_abs (reading signed w y)
  remainder-less =
      let above = size-by w (reading signed w y) y (wrapped-reading signed w y small_y) nonzero in
      rw remainder-reading (rem_below (reading signed w x) (reading signed w y) above)

  pub remainder-not-below : pos 0 ≤ℤ reading signed w x → pos 0 ≤ℤ reading signed w (remainder signed w x y)
  remainder-not-below h = rw remainder-reading (remainder-at-least (reading signed w x) (reading signed w y) h)

  pub remainder-not-above : reading signed w x ≤ℤ pos 0 → reading signed w (remainder signed w x y) ≤ℤ pos 0
  remainder-not-above h = rw remainder-reading (remainder-at-most (reading signed w x) (reading signed w y) h)

-- a value in a wider width, and back
pub there-and-back : (signed back : Bool) (w m v : ℕ) → v < 2 ^ w → w ≤ m → resized back m w (resized signed w m v) ≡ v
there-and-back signed back w m v small wider =
    let u = resized signed w m v in
    let below : u < 2 ^ m = wrapped-below m (reading signed w v) in
    sym (wrapped-cut (reading back m u) w m wider)
    ∙ ap (λ n. n % 2 ^ w) (wrapped-reading back m u below)
    ∙ wrapped-cut (reading signed w v) w m wider ∙ wrapped-reading signed w v small

pub resized-reading : (signed : Bool) (w m v : ℕ) → v < 2 ^ w → w ≤ m → reading signed m (resized signed w m v) ≡ reading signed w v
resized-reading signed w m v small wider =
    reading-wrapped signed m (reading signed w v)
    (fits-wider signed w m (reading signed w v) wider (reading-fits signed w v small))
