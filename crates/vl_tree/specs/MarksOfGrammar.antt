-- The marks of expressions (IEEE 1364-2005, clauses 3.3 and 5.1).
use Rattle.std.specs.Prelude.{◌≡◌, ℕ, List, [], ◌∷◌, Option, Some, None, codes, if◌then◌else◌}
use Rattle.std.specs.Str.{bytes_eq}
use Rattle.vl_base.specs.declared.place.Place.{Place}
use Rattle.vl_tree.specs.declared.token.Token.{Token}
use Rattle.vl_tree.specs.declared.token.TokenKind.{TokenKind}
use Rattle.vl_tree.specs.declared.token.TokenKind.TheVariants as k
use Rattle.vl_tree.specs.declared.tree.BinaryOperator.{BinaryOperator}
use Rattle.vl_tree.specs.declared.tree.BinaryOperator.TheVariants as b
use Rattle.vl_tree.specs.declared.tree.UnaryOperator.{UnaryOperator}
use Rattle.vl_tree.specs.declared.tree.UnaryOperator.TheVariants as u
use Rattle.vl_tree.specs.declared.tree.UnaryMark.{UnaryMark}
use Rattle.vl_tree.specs.declared.tree.SelectMark.{SelectMark}
use Rattle.vl_tree.specs.declared.tree.SelectMark.TheVariants as s

-- the token is this mark
abbrev pub IsMark : List ℕ → Token → Type 0
IsMark m u = u.kind ≡ k.Mark m

-- the token is this reserved word
abbrev pub IsKeyword : List ℕ → Token → Type 0
IsKeyword m u = u.kind ≡ k.Keyword m

-- the operators on two operands, by their marks (table 5-4)
abbrev pub binary_operators : List (List ℕ × BinaryOperator)
binary_operators =
    (codes "*", b.Multiply) ∷ (codes "/", b.Divide) ∷ (codes "%", b.Modulus)
    ∷ (codes "+", b.Add) ∷ (codes "-", b.Subtract)
    ∷ (codes "<<", b.ShiftLeft) ∷ (codes ">>", b.ShiftRight) ∷ (codes "<<<", b.ArithmeticShiftLeft) ∷ (codes ">>>", b.ArithmeticShiftRight)
    ∷ (codes "<", b.Less) ∷ (codes "<=", b.LessOrEqual) ∷ (codes ">", b.Greater) ∷ (codes ">=", b.GreaterOrEqual)
    ∷ (codes "==", b.Equal) ∷ (codes "!=", b.NotEqual) ∷ (codes "===", b.CaseEqual) ∷ (codes "!==", b.CaseNotEqual)
    ∷ (codes "&", b.And) ∷ (codes "^", b.Xor) ∷ (codes "^~", b.Xnor) ∷ (codes "~^", b.Xnor) ∷ (codes "|", b.Or)
    ∷ (codes "&&", b.LogicalAnd) ∷ (codes "||", b.LogicalOr) ∷ []

-- the operators before an operand, by their marks (table 5-4)
abbrev pub unary_operators : List (List ℕ × UnaryOperator)
unary_operators =
    (codes "+", u.Plus) ∷ (codes "-", u.Minus) ∷ (codes "!", u.LogicalNot) ∷ (codes "~", u.Not)
    ∷ (codes "&", u.And) ∷ (codes "~&", u.Nand) ∷ (codes "|", u.Or) ∷ (codes "~|", u.Nor)
    ∷ (codes "^", u.Xor) ∷ (codes "~^", u.Xnor) ∷ (codes "^~", u.Xnor) ∷ []

-- the marks between the bounds of a select (clause 5.2.1)
abbrev pub select_marks : List (List ℕ × SelectMark)
select_marks = (codes ":", s.Range) ∷ (codes "+:", s.Up) ∷ (codes "-:", s.Down) ∷ []

-- what stands beside these bytes in a table
abbrev pub found_in : {X : Type 0} → List (List ℕ × X) → List ℕ → Option X
found_in [] m = None
found_in (row ∷ rows) m = if bytes_eq m row.0 then Some row.1 else found_in rows m

abbrev pub mark_in : {X : Type 0} → List (List ℕ × X) → TokenKind → Option X
mark_in rows (k.Mark m) = found_in rows m
mark_in rows _ = None

-- the operator on two operands that a token is
unfoldable pub binary_operator : Token → Option BinaryOperator
binary_operator t = mark_in binary_operators t.kind

abbrev pub unary_at : Place → Option UnaryOperator → Option UnaryMark
unary_at p None = None
unary_at p (Some o) = Some (record { place = p; operator = o })

-- the operator before an operand that a token is, with its place
unfoldable pub unary_operator : Token → Option UnaryMark
unary_operator t = unary_at t.place (mark_in unary_operators t.kind)

-- the mark between bounds that a token is
unfoldable pub select_mark : Token → Option SelectMark
select_mark t = mark_in select_marks t.kind
