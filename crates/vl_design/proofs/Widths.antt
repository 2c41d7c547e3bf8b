-- Widths in contexts.
use Rattle.std.proofs.Common.{◌≡◌, ◌≤◌, refl, arith}
use Rattle.std.specs.Prelude.{IsTrue}
use Rattle.std.proofs.lemmas.Grind.{common_steps}
use Rattle.vl_base.specs.declared.bits.UnOp.{UnOp}
use Rattle.vl_base.specs.declared.bits.UnOp.TheVariants.{Neg, Not, LogNot, RedAnd, RedOr, RedXor, RedNand, RedNor, RedXnor}
use Rattle.vl_base.specs.declared.bits.BinOp.{BinOp}
use Rattle.vl_base.specs.declared.bits.BinOp.TheVariants.{Add, Sub, Mul, Div, Rem, And, Or, Xor, Xnor, Shl, Shr, Sshr, Lt, Le, Gt, Ge, Eq, Ne, LogAnd, LogOr}
use Rattle.vl_base.specs.Value.{unary_width, binary_width, needs_one_width}
use Rattle.vl_design.specs.declared.design.Form.{Form}
use Rattle.vl_design.specs.Width.{joined, unary_form, binary_form, operand_form, left_form, right_form}

pub one_width : (op : BinOp) (a b c : Form) → IsTrue (needs_one_width op) → (left_form op a b c).width ≡ (right_form op a b c).width
one_width Shl a b c h = cc
one_width Shr a b c h = cc
one_width Sshr a b c h = cc
one_width LogAnd a b c h = cc
one_width LogOr a b c h = cc
one_width op a b c h = refl

pub binary_within : (op : BinOp) (a b c : Form) → 1 ≤ c.width → binary_width op (left_form op a b c).width ≤ c.width
binary_within Add a b c h = omega arith
binary_within Sub a b c h = omega arith
binary_within Mul a b c h = omega arith
binary_within Div a b c h = omega arith
binary_within Rem a b c h = omega arith
binary_within And a b c h = omega arith
binary_within Or a b c h = omega arith
binary_within Xor a b c h = omega arith
binary_within Xnor a b c h = omega arith
binary_within Shl a b c h = omega arith
binary_within Shr a b c h = omega arith
binary_within Sshr a b c h = omega arith
binary_within Lt a b c h = h
binary_within Le a b c h = h
binary_within Gt a b c h = h
binary_within Ge a b c h = h
binary_within Eq a b c h = h
binary_within Ne a b c h = h
binary_within LogAnd a b c h = h
binary_within LogOr a b c h = h

pub unary_within : (op : UnOp) (a c : Form) → 1 ≤ c.width → unary_width op (operand_form op a c).width ≤ c.width
unary_within Neg a c h = omega arith
unary_within Not a c h = omega arith
unary_within LogNot a c h = h
unary_within RedAnd a c h = h
unary_within RedOr a c h = h
unary_within RedXor a c h = h
unary_within RedNand a c h = h
unary_within RedNor a c h = h
unary_within RedXnor a c h = h

-- ---- forms of 1 to 128 bits

pub joined_wide : (a b : Form) → 1 ≤ a.width → 1 ≤ (joined a b).width
joined_wide a b h = omega arith

pub joined_narrow : (a b : Form) → a.width ≤ 128 → b.width ≤ 128 → (joined a b).width ≤ 128
joined_narrow a b h k = omega arith

pub binary_wide : (op : BinOp) (a b : Form) → 1 ≤ a.width → 1 ≤ (binary_form op a b).width
binary_wide Add a b h = omega arith
binary_wide Sub a b h = omega arith
binary_wide Mul a b h = omega arith
binary_wide Div a b h = omega arith
binary_wide Rem a b h = omega arith
binary_wide And a b h = omega arith
binary_wide Or a b h = omega arith
binary_wide Xor a b h = omega arith
binary_wide Xnor a b h = omega arith
binary_wide Shl a b h = h
binary_wide Shr a b h = h
binary_wide Sshr a b h = h
binary_wide op a b h = omega arith

pub binary_narrow : (op : BinOp) (a b : Form) → a.width ≤ 128 → b.width ≤ 128 → (binary_form op a b).width ≤ 128
binary_narrow Add a b h k = omega arith
binary_narrow Sub a b h k = omega arith
binary_narrow Mul a b h k = omega arith
binary_narrow Div a b h k = omega arith
binary_narrow Rem a b h k = omega arith
binary_narrow And a b h k = omega arith
binary_narrow Or a b h k = omega arith
binary_narrow Xor a b h k = omega arith
binary_narrow Xnor a b h k = omega arith
binary_narrow Shl a b h k = h
binary_narrow Shr a b h k = h
binary_narrow Sshr a b h k = h
binary_narrow op a b h k = omega arith

pub unary_wide : (op : UnOp) (a : Form) → 1 ≤ a.width → 1 ≤ (unary_form op a).width
unary_wide Neg a h = h
unary_wide Not a h = h
unary_wide op a h = omega arith

pub unary_narrow : (op : UnOp) (a : Form) → a.width ≤ 128 → (unary_form op a).width ≤ 128
unary_narrow Neg a h = h
unary_narrow Not a h = h
unary_narrow op a h = omega arith

pub operand_wide : (op : UnOp) (a c : Form) → 1 ≤ a.width → 1 ≤ c.width → 1 ≤ (operand_form op a c).width
operand_wide Neg a c h k = k
operand_wide Not a c h k = k
operand_wide op a c h k = h

pub operand_narrow : (op : UnOp) (a c : Form) → a.width ≤ 128 → c.width ≤ 128 → (operand_form op a c).width ≤ 128
operand_narrow Neg a c h k = k
operand_narrow Not a c h k = k
operand_narrow op a c h k = h

pub left_wide : (op : BinOp) (a b c : Form) → 1 ≤ a.width → 1 ≤ c.width → 1 ≤ (left_form op a b c).width
left_wide Add a b c h k = k
left_wide Sub a b c h k = k
left_wide Mul a b c h k = k
left_wide Div a b c h k = k
left_wide Rem a b c h k = k
left_wide And a b c h k = k
left_wide Or a b c h k = k
left_wide Xor a b c h k = k
left_wide Xnor a b c h k = k
left_wide Shl a b c h k = k
left_wide Shr a b c h k = k
left_wide Sshr a b c h k = k
left_wide LogAnd a b c h k = h
left_wide LogOr a b c h k = h
left_wide op a b c h k = omega arith

pub left_narrow : (op : BinOp) (a b c : Form) → a.width ≤ 128 → b.width ≤ 128 → c.width ≤ 128 → (left_form op a b c).width ≤ 128
left_narrow Add a b c h i k = k
left_narrow Sub a b c h i k = k
left_narrow Mul a b c h i k = k
left_narrow Div a b c h i k = k
left_narrow Rem a b c h i k = k
left_narrow And a b c h i k = k
left_narrow Or a b c h i k = k
left_narrow Xor a b c h i k = k
left_narrow Xnor a b c h i k = k
left_narrow Shl a b c h i k = k
left_narrow Shr a b c h i k = k
left_narrow Sshr a b c h i k = k
left_narrow LogAnd a b c h i k = h
left_narrow LogOr a b c h i k = h
left_narrow op a b c h i k = omega arith

pub right_wide : (op : BinOp) (a b c : Form) → 1 ≤ a.width → 1 ≤ b.width → 1 ≤ c.width → 1 ≤ (right_form op a b c).width
right_wide Shl a b c h i k = i
right_wide Shr a b c h i k = i
right_wide Sshr a b c h i k = i
right_wide LogAnd a b c h i k = i
right_wide LogOr a b c h i k = i
right_wide op a b c h i k = left_wide op a b c h k

pub right_narrow : (op : BinOp) (a b c : Form) → a.width ≤ 128 → b.width ≤ 128 → c.width ≤ 128 → (right_form op a b c).width ≤ 128
right_narrow Shl a b c h i k = i
right_narrow Shr a b c h i k = i
right_narrow Sshr a b c h i k = i
right_narrow LogAnd a b c h i k = i
right_narrow LogOr a b c h i k = i
right_narrow op a b c h i k = left_narrow op a b c h i k

pub ruleset widths = (common_steps, one_width, binary_within, unary_within, joined_wide, joined_narrow, binary_wide, binary_narrow, unary_wide, unary_narrow, operand_wide, operand_narrow, left_wide, left_narrow, right_wide, right_narrow)
