-- Value arithmetic: a value is a width w and a whole number below 2^w (IEEE 1364-2005, clauses 4.1 and 5.1).
use Rattle.std.specs.Prelude.{ℕ, zero, suc, ◌+◌, ◌-◌, ◌*◌, ◌/◌, ◌%◌, ◌^◌, min, ℤ, pos, negsuc, neg_ℤ, ◌-ℤ◌, int_div, int_rem, int_lt, int_le, Bool, true, false, not, ◌&&◌, ◌||◌, if◌then◌else◌, ◌==◌, nat_le, bit_and, bit_or, bit_xor}
use Rattle.vl_base.specs.declared.bits.UnOp.{UnOp}
use Rattle.vl_base.specs.declared.bits.UnOp.TheVariants.{Neg, Not, LogNot, RedAnd, RedOr, RedXor, RedNand, RedNor, RedXnor}
use Rattle.vl_base.specs.declared.bits.BinOp.{BinOp}
use Rattle.vl_base.specs.declared.bits.BinOp.TheVariants.{Add, Sub, Mul, Div, Rem, And, Or, Xor, Xnor, Shl, Shr, Sshr, Lt, Le, Gt, Ge, Eq, Ne, LogAnd, LogOr}

-- the highest of w bits is set
abbrev pub is_negative : ℕ → ℕ → Bool
is_negative w v = nat_le (2 ^ w) (2 * v)

-- the whole number that w bits stand for: in two's complement where they are signed (clause 5.1.6)
abbrev pub reading : Bool → ℕ → ℕ → ℤ
reading signed w v = if signed && is_negative w v then neg_ℤ (pos (2 ^ w - v)) else pos v

-- the lowest w bits of a whole number: its rest modulo 2^w
abbrev pub wrapped : ℕ → ℤ → ℕ
wrapped w (pos n) = n % 2 ^ w
wrapped w (negsuc n) = (2 ^ w - 1) - n % 2 ^ w

-- a value of one width in another: cut at the left, or extended, by its sign where it is signed (clause 5.5)
abbrev pub resized : Bool → ℕ → ℕ → ℕ → ℕ
resized signed from to v = wrapped to (reading signed from v)

-- the bit that a test gives
abbrev pub truth : Bool → ℕ
truth b = if b then 1 else 0

-- each of w bits turned
abbrev pub inverted : ℕ → ℕ → ℕ
inverted w x = (2 ^ w - 1) - x

-- the exclusive or of the lowest w bits: 1 where an odd number of them is set (clause 5.1.11)
abbrev pub parity : ℕ → ℕ → ℕ
parity zero x = 0
parity (suc w) x = (x % 2 + parity w (x / 2)) % 2

-- the value of a unary operator on an operand of w bits (clauses 5.1.5 and 5.1.9 to 5.1.11)
abbrev pub unary_value : UnOp → ℕ → ℕ → ℕ
unary_value Neg w x = wrapped w (neg_ℤ (pos x))
unary_value Not w x = inverted w x
unary_value LogNot w x = truth (x == 0)
unary_value RedAnd w x = truth (x == 2 ^ w - 1)
unary_value RedOr w x = truth (not (x == 0))
unary_value RedXor w x = parity w x
unary_value RedNand w x = truth (not (x == 2 ^ w - 1))
unary_value RedNor w x = truth (x == 0)
unary_value RedXnor w x = 1 - parity w x

-- the width of its value
abbrev pub unary_width : UnOp → ℕ → ℕ
unary_width Neg w = w
unary_width Not w = w
unary_width LogNot w = 1
unary_width RedAnd w = 1
unary_width RedOr w = 1
unary_width RedXor w = 1
unary_width RedNand w = 1
unary_width RedNor w = 1
unary_width RedXnor w = 1

-- the quotient of two operands of w bits, toward zero; 0 where the second is 0 (clause 5.1.5; 0 is own)
abbrev pub quotient : Bool → ℕ → ℕ → ℕ → ℕ
quotient signed w x y = if y == 0 then 0 else wrapped w (int_div (reading signed w x) (reading signed w y))

-- what it leaves, with the sign of the first operand; 0 where the second is 0 (clause 5.1.5; 0 is own)
abbrev pub remainder : Bool → ℕ → ℕ → ℕ → ℕ
remainder signed w x y = if y == 0 then 0 else wrapped w (int_rem (reading signed w x) (reading signed w y))

-- w bits moved to the left by n places, with zeros behind them; by w places or more they are gone (clause 5.1.12)
abbrev pub shifted_left : ℕ → ℕ → ℕ → ℕ
shifted_left w x n = x * 2 ^ min n w % 2 ^ w

-- w bits moved to the right by n places, with zeros before them (clause 5.1.12)
abbrev pub shifted_right : ℕ → ℕ → ℕ → ℕ
shifted_right w x n = x / 2 ^ min n w

-- w bits moved to the right by n places, with copies of the sign bit before them where they are signed (clause 5.1.12)
abbrev pub shifted_right_by_sign : Bool → ℕ → ℕ → ℕ → ℕ
shifted_right_by_sign signed w x n = resized signed w (w + min n w) x / 2 ^ min n w

-- the value of a binary operator on operands of w bits (clauses 5.1.5 to 5.1.12). The second operand of a shift is
-- an amount, of any width, read as unsigned. Of the operands of && and || only counts whether they are 0
abbrev pub binary_value : BinOp → Bool → ℕ → ℕ → ℕ → ℕ
binary_value Add signed w x y = (x + y) % 2 ^ w
binary_value Sub signed w x y = wrapped w (pos x -ℤ pos y)
binary_value Mul signed w x y = x * y % 2 ^ w
binary_value Div signed w x y = quotient signed w x y
binary_value Rem signed w x y = remainder signed w x y
binary_value And signed w x y = bit_and x y
binary_value Or signed w x y = bit_or x y
binary_value Xor signed w x y = bit_xor x y
binary_value Xnor signed w x y = inverted w (bit_xor x y)
binary_value Shl signed w x y = shifted_left w x y
binary_value Shr signed w x y = shifted_right w x y
binary_value Sshr signed w x y = shifted_right_by_sign signed w x y
binary_value Lt signed w x y = truth (int_lt (reading signed w x) (reading signed w y))
binary_value Le signed w x y = truth (int_le (reading signed w x) (reading signed w y))
binary_value Gt signed w x y = truth (int_lt (reading signed w y) (reading signed w x))
binary_value Ge signed w x y = truth (int_le (reading signed w y) (reading signed w x))
binary_value Eq signed w x y = truth (x == y)
binary_value Ne signed w x y = truth (not (x == y))
binary_value LogAnd signed w x y = truth (not (x == 0) && not (y == 0))
binary_value LogOr signed w x y = truth (not (x == 0) || not (y == 0))

-- the width of its value
abbrev pub binary_width : BinOp → ℕ → ℕ
binary_width Add w = w
binary_width Sub w = w
binary_width Mul w = w
binary_width Div w = w
binary_width Rem w = w
binary_width And w = w
binary_width Or w = w
binary_width Xor w = w
binary_width Xnor w = w
binary_width Shl w = w
binary_width Shr w = w
binary_width Sshr w = w
binary_width Lt w = 1
binary_width Le w = 1
binary_width Gt w = 1
binary_width Ge w = 1
binary_width Eq w = 1
binary_width Ne w = 1
binary_width LogAnd w = 1
binary_width LogOr w = 1

-- whether an operator wants operands of one width: all but shifts, && and ||
abbrev pub needs_one_width : BinOp → Bool
needs_one_width Shl = false
needs_one_width Shr = false
needs_one_width Sshr = false
needs_one_width LogAnd = false
needs_one_width LogOr = false
needs_one_width op = true
