-- Each value of an operator is below 2 to its width.
use Rattle.std.proofs.Common.{◌≡◌, ℕ, zero, suc, ◌+◌, ◌-◌, ◌*◌, ◌/◌, ◌^◌, ◌<◌, min, Bool, true, false, refl, arith}
use Rattle.std.specs.Prelude.{ℤ, pos, negsuc, neg_ℤ, ◌-ℤ◌, ◌==◌, int_div, int_rem, if◌then◌else◌, bit_xor}
use Rattle.std.proofs.Math.Pow.{pow_pos}
use Rattle.std.proofs.Math.Nat.{div-le_self}
use Rattle.std.proofs.lemmas.Nat.{mod_below, and_le_l, or_lt, xor_lt, shr_below}
use Rattle.vl_base.specs.declared.bits.UnOp.{UnOp}
use Rattle.vl_base.specs.declared.bits.UnOp.TheVariants.{Neg, Not, LogNot, RedAnd, RedOr, RedXor, RedNand, RedNor, RedXnor}
use Rattle.vl_base.specs.declared.bits.BinOp.{BinOp}
use Rattle.vl_base.specs.declared.bits.BinOp.TheVariants.{Add, Sub, Mul, Div, Rem, And, Or, Xor, Xnor, Shl, Shr, Sshr, Lt, Le, Gt, Ge, Eq, Ne, LogAnd, LogOr}
use Rattle.vl_base.specs.Value.{unary_value, unary_width, binary_value, binary_width, needs_one_width, truth, parity, wrapped, inverted, reading, resized}
use Rattle.vl_base.specs.Selects.{placed, with_part}
use Rattle.vl_base.proofs.Congruent.{wrapped-below}

truth-below : (b : Bool) → truth b < 2
truth-below true = omega arith
truth-below false = omega arith

parity-below : (w x : ℕ) → parity w x < 2
parity-below zero x = omega arith
parity-below (suc w) x = omega arith

inverted-below : (w x : ℕ) → inverted w x < 2 ^ w
inverted-below w x = omega (arith, pow_pos w)

unless-zero : (b : Bool) (w : ℕ) (z : ℤ) → (if b then 0 else wrapped w z) < 2 ^ w
unless-zero true w z = pow_pos w
unless-zero false w z = wrapped-below w z

pub unary-below : (op : UnOp) (w x : ℕ) → unary_value op w x < 2 ^ unary_width op w
unary-below Neg w x = wrapped-below w (neg_ℤ (pos x))
unary-below Not w x = inverted-below w x
unary-below LogNot w x = truth-below _
unary-below RedAnd w x = truth-below _
unary-below RedOr w x = truth-below _
unary-below RedXor w x = parity-below w x
unary-below RedNand w x = truth-below _
unary-below RedNor w x = truth-below _
unary-below RedXnor w x = omega arith

by-sign-below : (signed : Bool) (w x m : ℕ) → resized signed w (w + m) x / 2 ^ m < 2 ^ w
by-sign-below signed w x m = shr_below (resized signed w (w + m) x) w m (wrapped-below (w + m) (reading signed w x))

pub binary-below : (op : BinOp) (signed : Bool) (w x y : ℕ) → x < 2 ^ w → (needs_one_width op ≡ true → y < 2 ^ w) → binary_value op signed w x y < 2 ^ binary_width op w
binary-below Add signed w x y h k = mod_below (x + y) (2 ^ w) (pow_pos w)
binary-below Sub signed w x y h k = wrapped-below w (pos x -ℤ pos y)
binary-below Mul signed w x y h k = mod_below (x * y) (2 ^ w) (pow_pos w)
binary-below Div signed w x y h k = unless-zero (y == 0) w (int_div (reading signed w x) (reading signed w y))
binary-below Rem signed w x y h k = unless-zero (y == 0) w (int_rem (reading signed w x) (reading signed w y))
binary-below And signed w x y h k = omega (arith, and_le_l x y)
binary-below Or signed w x y h k = or_lt w x y h (k refl)
binary-below Xor signed w x y h k = xor_lt w x y h (k refl)
binary-below Xnor signed w x y h k = inverted-below w (bit_xor x y)
binary-below Shl signed w x y h k = mod_below (x * 2 ^ min y w) (2 ^ w) (pow_pos w)
binary-below Shr signed w x y h k = omega (arith, div-le_self x (2 ^ min y w))
binary-below Sshr signed w x y h k = by-sign-below signed w x (min y w)
binary-below Lt signed w x y h k = truth-below _
binary-below Le signed w x y h k = truth-below _
binary-below Gt signed w x y h k = truth-below _
binary-below Ge signed w x y h k = truth-below _
binary-below Eq signed w x y h k = truth-below _
binary-below Ne signed w x y h k = truth-below _
binary-below LogAnd signed w x y h k = truth-below _
binary-below LogOr signed w x y h k = truth-below _

pub placed-below : (w v : ℕ) (low : ℤ) (width part : ℕ) → placed w v low width part < 2 ^ w
placed-below w v (pos low) width part = mod_below (with_part v (min low w) width part) (2 ^ w) (pow_pos w)
placed-below w v (negsuc n) width part =
    let m = min (suc n) width in mod_below (with_part v 0 (width - m) (part / 2 ^ m)) (2 ^ w) (pow_pos w)
