-- How a binary operator's context comes to its operands (IEEE 1364-2005, table 5-22).
use Rattle.vl_base.specs.declared.bits.BinOp.{BinOp}
use Rattle.vl_base.specs.declared.bits.BinOp.TheVariants.{Add, Sub, Mul, Div, Rem, And, Or, Xor, Xnor, Shl, Shr, Sshr, LogAnd, LogOr}
use Rattle.vl_eval.specs.declared.form.Shape.{Shape}
use Rattle.vl_eval.specs.declared.form.Shape.TheVariants as s

abbrev pub shape : BinOp → Shape
shape Add = s.Both
shape Sub = s.Both
shape Mul = s.Both
shape Div = s.Both
shape Rem = s.Both
shape And = s.Both
shape Or = s.Both
shape Xor = s.Both
shape Xnor = s.Both
shape Shl = s.Left
shape Shr = s.Left
shape Sshr = s.Left
shape LogAnd = s.Neither
shape LogOr = s.Neither
shape op = s.Joined
