-- How operators bind (IEEE 1364-2005, clause 5.1.2 and table 5-4).
use Rattle.std.specs.Prelude.{ℕ, ◌<◌, ◌≤◌, nat_lt, List, [], ◌∷◌, ◌++◌, if◌then◌else◌}
use Rattle.vl_tree.specs.declared.tree.BinaryOperator.{BinaryOperator}
use Rattle.vl_tree.specs.declared.tree.BinaryOperator.TheVariants as b
use Rattle.vl_tree.specs.declared.tree.Binary.{Binary, out-Binary}
use Rattle.vl_tree.specs.declared.tree.Link.{Link, out-Link}
use Rattle.vl_tree.specs.declared.tree.Unary.{Unary}
use Rattle.vl_tree.specs.Grammar.{link_of}

-- the row of table 5-4 that an operator stands in, from the one that binds tightest
abbrev pub row_of : BinaryOperator → ℕ
row_of b.Multiply = 1
row_of b.Divide = 1
row_of b.Modulus = 1
row_of b.Add = 2
row_of b.Subtract = 2
row_of b.ShiftLeft = 3
row_of b.ShiftRight = 3
row_of b.ArithmeticShiftLeft = 3
row_of b.ArithmeticShiftRight = 3
row_of b.Less = 4
row_of b.LessOrEqual = 4
row_of b.Greater = 4
row_of b.GreaterOrEqual = 4
row_of b.Equal = 5
row_of b.NotEqual = 5
row_of b.CaseEqual = 5
row_of b.CaseNotEqual = 5
row_of b.And = 6
row_of b.Xor = 7
row_of b.Xnor = 7
row_of b.Or = 8
row_of b.LogicalAnd = 9
row_of b.LogicalOr = 10

-- an expression whose operators are bound: an operand, or an operator on two of these
pub data Term : Type 0 where
  operand : Unary → Term
  join : BinaryOperator → Term → Term → Term

-- an operator with the operand on its right, behind a term: it goes into the right part of a looser operator
abbrev pub joined : Term → BinaryOperator → Unary → Term
joined (operand e) o f = join o (operand e) (operand f)
joined (join p l r) o f = if nat_lt (row_of o) (row_of p) then join p l (joined r o f) else join o (join p l r) (operand f)

-- operators and operands in order, bound
abbrev pub bound_from : Term → List Link → Term
bound_from t [] = t
bound_from t (l ∷ ls) = bound_from (joined t (out-Link l).operator (out-Link l).operand) ls

-- the operands and operators of a `binary`, bound
abbrev pub term_of : Binary → Term
term_of e = bound_from (operand (out-Binary e).first) (out-Binary e).links

-- ---- what binding means

-- the first operand of a term
abbrev pub first_of : Term → Unary
first_of (operand e) = e
first_of (join o l r) = first_of l

-- its operators in order, each with the operand on its right
abbrev pub links_of : Term → List Link
links_of (operand e) = []
links_of (join o l r) = links_of l ++ link_of o (first_of r) ∷ links_of r

-- each operator outside parentheses stands in such a row
abbrev pub AllRows : (ℕ → Type 0) → Term → Type 0
AllRows P (operand e) = Unit {0}
AllRows P (join o l r) = P (row_of o) × AllRows P l × AllRows P r

-- each operator has on its left what binds as tightly as itself or tighter, and on its right what binds tighter
abbrev pub IsBound : Term → Type 0
IsBound (operand e) = Unit {0}
IsBound (join o l r) = AllRows (λ n. n ≤ row_of o) l × AllRows (λ n. n < row_of o) r × IsBound l × IsBound r
