-- What an expression is, apart from parentheses.
use Rattle.std.specs.Prelude.{Bool, true, false, if◌then◌else◌, List, [], ◌∷◌, Option, Some, None}
use Rattle.vl_tree.specs.declared.tree.Expression as e
use Rattle.vl_tree.specs.declared.tree.Expression.{Expression, out-Expression}
use Rattle.vl_tree.specs.declared.tree.Choice.{Choice}
use Rattle.vl_tree.specs.declared.tree.Binary as b
use Rattle.vl_tree.specs.declared.tree.Binary.{out-Binary}
use Rattle.vl_tree.specs.declared.tree.Link.{Link}
use Rattle.vl_tree.specs.declared.tree.Unary.{Unary, out-Unary}
use Rattle.vl_tree.specs.declared.tree.UnaryMark.{UnaryMark}
use Rattle.vl_tree.specs.declared.tree.UnaryOperator.{UnaryOperator}
use Rattle.vl_tree.specs.declared.tree.UnaryOperator.TheVariants as o
use Rattle.vl_tree.specs.declared.tree.Primary as p
use Rattle.vl_tree.specs.declared.tree.Primary.{Primary}
use Rattle.vl_tree.specs.declared.tree.Primary.TheVariants as v
use Rattle.vl_tree.specs.declared.tree.Name.{out-Name}
use Rattle.vl_tree.specs.declared.tree.Select.{Select}
use Rattle.vl_tree.specs.declared.tree.Identifier.{Identifier}

-- the operand of an expression that has no binary operator and no `?`
abbrev pub operand_in : Option Choice → List Link → Unary → Option Unary
operand_in None [] first = Some first
operand_in _ _ first = None

-- the operand that an expression is, apart from marks before it
abbrev pub operand_of : Expression → Option Unary
operand_of x = let y = out-Binary (out-Expression x).binary in operand_in (out-Expression x).choice y.links y.first

-- the primary of an operand without marks
abbrev pub unmarked_in : List UnaryMark → Primary → Option Primary
unmarked_in [] y = Some y
unmarked_in (m ∷ ms) y = None

-- the primary that an operand is, where it has no marks
abbrev pub unmarked : Option Unary → Option Primary
unmarked None = None
unmarked (Some x) = unmarked_in (out-Unary x).operators (out-Unary x).primary

-- the primary that an expression is, where it is nothing else
abbrev pub sole : Expression → Option Primary
sole x = unmarked (operand_of x)

-- nothing stands before or behind an operand. (A row is a list of parts, and a part in a place of its own is a row of one.)
abbrev pub stands_alone : {m : _} → List UnaryMark → b.Row_of-Link m → Bool
stands_alone [] b.end_of-Link = true
stands_alone _ links = false

unfoldable mutual
  -- an expression without the parentheses that stand round the whole
  pub stripped : Expression → Expression
  stripped (e.Expression' at s whole e.Expression-choice-None') = stripped_row (e.Expression' at s whole e.Expression-choice-None') whole
  stripped (e.Expression' at s whole (e.Expression-choice-Some' t choice)) = e.Expression' at s whole (e.Expression-choice-Some' t choice)

  pub stripped_row : {m : _} → Expression → e.Row_of-Binary m → Expression
  stripped_row x e.end_of-Binary = x
  stripped_row x (e.more_of-Binary (b.Binary' at from marks s primary t links) rest) = if stands_alone marks links then stripped_primary x primary else x

  pub stripped_primary : {m : _} → Expression → b.Row_of-Primary m → Expression
  stripped_primary x (b.more_of-Primary (p.Parenthesized' at s inner) rest) = stripped_inner x inner
  stripped_primary x row = x

  pub stripped_inner : {m : _} → Expression → p.Row_of-Expression m → Expression
  stripped_inner x (p.more_of-Expression inner rest) = stripped inner
  stripped_inner x p.end_of-Expression = x

-- what stands in the parentheses that a primary is
abbrev pub row_inner : {m : _} → p.Row_of-Expression m → Option Expression
row_inner p.end_of-Expression = None
row_inner (p.more_of-Expression inner rest) = Some inner

-- what stands in the parentheses that a primary is, if it is such
abbrev pub inner_of : Option Primary → Option Expression
inner_of (Some (p.Parenthesized' at s inner)) = row_inner inner
inner_of _ = None

-- the primary that an expression is, apart from parentheses
abbrev pub apart : Expression → Option Primary
apart x = sole (stripped x)

-- what stands in parentheses, apart from those and others round the whole
abbrev pub row_apart : {m : _} → p.Row_of-Expression m → Option Primary
row_apart p.end_of-Expression = None
row_apart (p.more_of-Expression inner rest) = apart inner

-- the primary that a primary is, apart from parentheses
abbrev pub primary_apart : Primary → Option Primary
primary_apart (p.Parenthesized' at s inner) = row_apart inner
primary_apart y = Some y

-- what stands behind a mark that is `!`
abbrev pub behind_mark : UnaryOperator → Primary → Option Primary
behind_mark o.LogicalNot y = primary_apart y
behind_mark _ y = None

-- what stands behind one mark that is `!`
abbrev pub behind_marks : List UnaryMark → Primary → Option Primary
behind_marks (m ∷ []) y = behind_mark m.operator y
behind_marks _ y = None

-- the primary of which an operand is the `!`
abbrev pub negated_in : Option Unary → Option Primary
negated_in None = None
negated_in (Some x) = behind_marks (out-Unary x).operators (out-Unary x).primary

-- the primary of which an expression is the `!`, both apart from parentheses
abbrev pub negated : Expression → Option Primary
negated x = negated_in (operand_of (stripped x))

-- a name without selects
abbrev pub bare_in : Identifier → List Select → Option Identifier
bare_in n [] = Some n
bare_in n (s ∷ ss) = None

-- the name that a primary is, if it is one without selects
abbrev pub bare_of : Option Primary → Option Identifier
bare_of (Some (v.Name n)) = bare_in (out-Name n).identifier (out-Name n).selects
bare_of _ = None

-- the name that an expression is, if it is one without selects
abbrev pub bare : Expression → Option Identifier
bare x = bare_of (sole x)
