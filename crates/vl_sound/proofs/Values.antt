-- The value of an expression is below 2 to the width of a context that is no narrower than the expression; so is that of a
-- parameter to its width.
use Rattle.std.proofs.Common.{◌≡◌, ℕ, zero, suc, ◌+◌, ◌*◌, ◌^◌, ◌<◌, ◌≤◌, max, Bool, true, false, if◌then◌else◌, refl, subst, arith, sym}
use Rattle.std.specs.Prelude.{ℤ, pos, negsuc, ◌==◌, Some, None}
use Rattle.std.proofs.Math.Pow.{pow_pos}
use Rattle.std.proofs.Math.Nat.{suc-mul, le_refl, pow-le-pow_right}
use Rattle.std.proofs.lemmas.Nat.{mod_below}
use Rattle.vl_flat.specs.vl_base.specs.declared.bits.UnOp.{UnOp}
use Rattle.vl_flat.specs.vl_base.specs.declared.bits.UnOp.TheVariants.{Neg, Not, LogNot, RedAnd, RedOr, RedXor, RedNand, RedNor, RedXnor}
use Rattle.vl_flat.specs.vl_base.specs.declared.bits.BinOp.{BinOp}
use Rattle.vl_flat.specs.vl_base.specs.declared.bits.BinOp.TheVariants.{Add, Sub, Mul, Div, Rem, And, Or, Xor, Xnor, Shl, Shr, Sshr, Lt, Le, Gt, Ge, Eq, Ne, LogAnd, LogOr}
use Rattle.vl_flat.specs.vl_base.specs.Value.{reading, unary_width, binary_width, needs_one_width}
use Rattle.vl_flat.specs.vl_base.specs.Selects.{picked, appended}
use Rattle.vl_flat.specs.vl_base.proofs.Bounds.{unary-below, binary-below}
use Rattle.vl_flat.specs.vl_base.proofs.Congruent.{wrapped-below}
use Rattle.vl_flat.specs.vl_base.proofs.Parts.{joined-below}
use Rattle.vl_flat.specs.vl_design.specs.declared.design.Form.{Form}
use Rattle.vl_flat.specs.vl_design.specs.Syntax.{Exp, Num, Label, Sig, Word, Pick, Slice, Un, Bin, Cond, Cat, Rep, Cast, Call, Time, LastAnswer, Exps, NoExps, MoreExps}
use Rattle.vl_flat.specs.vl_design.specs.Width.{Scope, form, total_width, unary_form, binary_form, operand_form, left_form, right_form}
use Rattle.vl_flat.specs.vl_design.specs.Value.{Sample, value, side_by_side, repeated}
use Rattle.vl_flat.specs.vl_design.specs.Placed as p
use Rattle.vl_flat.specs.vl_design.specs.Plainly as plain
use Rattle.vl_flat.specs.Items.{DataType, Integer, Vector}
use Rattle.vl_flat.specs.Scopes.{Env}
use Rattle.vl_flat.specs.Constants.{closed, nothing, constant_form, constant_value}
use Rattle.vl_flat.specs.Ranges.{parameter_range, bits_in}
use Rattle.vl_flat.specs.Parameters.{ranged, converted}
use Rattle.vl_flat.specs.vl_base.proofs.Shared.{picked-below}
use Rattle.vl_flat.specs.vl_design.proofs.Shared.{repeated-below}
use Rattle.vl_flat.specs.vl_base.proofs.Numbers.{fits_wider as wider}

-- ---- operators: a context that is no narrower than the whole

unary-narrow : (op : UnOp) (a c : Form) → (unary_form op a).width ≤ c.width → unary_width op (operand_form op a c).width ≤ c.width
unary-narrow Neg a c h = omega arith
unary-narrow Not a c h = omega arith
unary-narrow op a c h = h

unary-wide : (op : UnOp) (a c : Form) → (unary_form op a).width ≤ c.width → a.width ≤ (operand_form op a c).width
unary-wide Neg a c h = h
unary-wide Not a c h = h
unary-wide op a c h = omega arith

module _ (a b c : Form) where
  binary-narrow : (op : BinOp) → (binary_form op a b).width ≤ c.width → binary_width op (left_form op a b c).width ≤ c.width
  binary-narrow Add h = le_refl c.width
  binary-narrow op h = omega (arith, h)

  left-wide : (op : BinOp) → (binary_form op a b).width ≤ c.width → a.width ≤ (left_form op a b c).width
  left-wide Shl h = h
  left-wide op h = omega (arith, h)

  right-wide : (op : BinOp) → (binary_form op a b).width ≤ c.width → b.width ≤ (right_form op a b c).width
  right-wide Shl h = le_refl b.width
  right-wide op h = omega (arith, h)

  right-same : (op : BinOp) → needs_one_width op ≡ true → right_form op a b c ≡ left_form op a b c
  right-same Shl h = absurd cc
  right-same Shr h = absurd cc
  right-same Sshr h = absurd cc
  right-same LogAnd h = absurd cc
  right-same LogOr h = absurd cc
  right-same op h = refl

either-below : (b : Bool) (x y n : ℕ) → x < n → y < n → (if b then x else y) < n
either-below true x y n h k = h
either-below false x y n h k = k

module _ (scope : Scope) (s : Sample) where
  mutual
    value-below : (e : Exp) (c : Form) → (form scope.names e).width ≤ c.width → value scope s e c < 2 ^ c.width
    value-below (Num v w signed) c h = wrapped-below c.width (reading c.signed w v)
    value-below (Label v care w signed) c h = wrapped-below c.width (reading c.signed w v)
    value-below (Sig k) c h = wrapped-below c.width _
    value-below (Word m a) c h = wrapped-below c.width _
    value-below (Pick b i from w) c h = wider _ w c.width (picked-below _ _ _ w) h
    value-below (Slice b low w) c h = wider _ w c.width (picked-below _ _ _ w) h
    value-below (Un op a) c h =
        let f = operand_form op (form scope.names a) c in
        wider _ (unary_width op f.width) c.width (unary-below op f.width (value scope s a f)) (unary-narrow op (form scope.names a) c h)
    value-below (Bin op a b) c h =
        let l = left_form op (form scope.names a) (form scope.names b) c in
        let r = right_form op (form scope.names a) (form scope.names b) c in
        let left = value-below a l (left-wide (form scope.names a) (form scope.names b) c op h) in
        let right = value-below b r (right-wide (form scope.names a) (form scope.names b) c op h) in
        wider _ (binary_width op l.width) c.width
        (binary-below op l.signed l.width (value scope s a l) (value scope s b r) left
        (λ q. subst (λ (z : Form). value scope s b r < 2 ^ z.width) (right-same (form scope.names a) (form scope.names b) c op q) right))
        (binary-narrow (form scope.names a) (form scope.names b) c op h)
    value-below (Cond t a b) c h =
        either-below (value scope s t (form scope.names t) == 0) (value scope s b c) (value scope s a c) (2 ^ c.width)
        (value-below b c (omega (arith, h))) (value-below a c (omega (arith, h)))
    value-below (Cat es) c h = wider _ (total_width scope.names es) c.width (side-below es) h
    value-below (Rep n es) c h = wider _ (n * total_width scope.names es) c.width (repeated-below n (total_width scope.names es) _ (side-below es)) h
    value-below (Cast signed a) c h = wrapped-below c.width _
    value-below (Call f es) c h = wrapped-below c.width _
    value-below Time c h = wider _ 64 c.width (mod_below s.time (2 ^ 64) (pow_pos 64)) h
    value-below LastAnswer c h = wrapped-below c.width _

    side-below : (es : Exps) → side_by_side scope s es < 2 ^ total_width scope.names es
    side-below NoExps = pow_pos 0
    side-below (MoreExps e es) =
        joined-below (value scope s e (form scope.names e)) (side_by_side scope s es) (form scope.names e).width (total_width scope.names es)
        (value-below e (form scope.names e) (le_refl (form scope.names e).width)) (side-below es)

-- ---- parameters

ranged-below : (e : p.Exp) (r : ℤ × ℤ) (signed : Bool) → (ranged e r signed).value < 2 ^ bits_in r
ranged-below e r signed = mod_below _ (2 ^ bits_in r) (pow_pos (bits_in r))

pub parameter-below : (env : Env) (type : DataType) (e : p.Exp) → (converted env type e).value < 2 ^ (converted env type e).width
parameter-below env (Vector signed None) e = value-below closed nothing (plain.exp e) (constant_form e) (le_refl (constant_form e).width)
parameter-below env (Vector signed (Some r)) e = ranged-below e (parameter_range env (Vector signed (Some r))) signed
parameter-below env Integer e = ranged-below e (parameter_range env Integer) true
