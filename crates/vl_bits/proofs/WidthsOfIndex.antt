-- Operands fit their contexts.
use Rattle.std.proofs.Common.{◌≡◌, ◌^◌, ◌≤◌, ◌<◌, Bool, true, false, refl, arith}
use Rattle.std.specs.Prelude.{IsTrue, ◌||◌}
use Rattle.std.proofs.Math.Pow.{pow_mono}
use Rattle.std.proofs.lemmas.Grind.{common_steps}
use Rattle.vl_base.specs.declared.bits.UnOp.{UnOp}
use Rattle.vl_base.specs.declared.bits.UnOp.TheVariants.{Neg, Not, LogNot, RedAnd, RedOr, RedXor, RedNand, RedNor, RedXnor}
use Rattle.vl_base.specs.declared.bits.BinOp.{BinOp}
use Rattle.vl_base.specs.declared.bits.BinOp.TheVariants.{Add, Sub, Mul, Div, Rem, And, Or, Xor, Xnor, Shl, Shr, Sshr, Lt, Le, Gt, Ge, Eq, Ne, LogAnd, LogOr}
use Rattle.vl_base.specs.Value.{unary_width, binary_width, needs_one_width}
use Rattle.vl_design.specs.declared.design.Form.{Form}
use Rattle.vl_design.specs.Width.{joined, unary_form, binary_form, operand_form, left_form, right_form}
use Rattle.vl_design.proofs.Widths.{one_width, binary_within, unary_within, joined_wide, joined_narrow, binary_wide, binary_narrow, unary_wide, unary_narrow, operand_wide, operand_narrow, left_wide, left_narrow, right_wide, right_narrow}
pub use Rattle.vl_base.proofs.Booleans.{or_left_false as first_false, or_right_false as second_false}

pub operand_fits : (op : UnOp) (a c : Form) → (unary_form op a).width ≤ c.width → a.width ≤ (operand_form op a c).width
operand_fits Neg a c h = h
operand_fits Not a c h = h
operand_fits op a c h = omega arith

pub left_fits : (op : BinOp) (a b c : Form) → (binary_form op a b).width ≤ c.width → a.width ≤ (left_form op a b c).width
left_fits Add a b c h = omega arith
left_fits Sub a b c h = omega arith
left_fits Mul a b c h = omega arith
left_fits Div a b c h = omega arith
left_fits Rem a b c h = omega arith
left_fits And a b c h = omega arith
left_fits Or a b c h = omega arith
left_fits Xor a b c h = omega arith
left_fits Xnor a b c h = omega arith
left_fits Shl a b c h = h
left_fits Shr a b c h = h
left_fits Sshr a b c h = h
left_fits LogAnd a b c h = omega arith
left_fits LogOr a b c h = omega arith
left_fits op a b c h = omega arith

pub right_fits : (op : BinOp) (a b c : Form) → (binary_form op a b).width ≤ c.width → b.width ≤ (right_form op a b c).width
right_fits Add a b c h = omega arith
right_fits Sub a b c h = omega arith
right_fits Mul a b c h = omega arith
right_fits Div a b c h = omega arith
right_fits Rem a b c h = omega arith
right_fits And a b c h = omega arith
right_fits Or a b c h = omega arith
right_fits Xor a b c h = omega arith
right_fits Xnor a b c h = omega arith
right_fits Shl a b c h = omega arith
right_fits Shr a b c h = omega arith
right_fits Sshr a b c h = omega arith
right_fits LogAnd a b c h = omega arith
right_fits LogOr a b c h = omega arith
right_fits op a b c h = omega arith

pub ruleset widths = (common_steps, first_false, second_false, one_width, binary_within, unary_within, operand_fits, left_fits, right_fits, joined_wide, joined_narrow, binary_wide, binary_narrow, unary_wide, unary_narrow, operand_wide, operand_narrow, left_wide, left_narrow, right_wide, right_narrow)

pub ruleset paddings = (common_steps, pow_mono)
