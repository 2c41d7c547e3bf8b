-- Expressions, left sides and statements as plain data, their operators bound (IEEE 1364-2005, clauses 5 and 9). Each
-- node has the place of its first token; parentheses and unary `+` are nodes.
use Rattle.std.specs.Prelude.{ℕ, Bool, nat_lt, List, if◌then◌else◌}
use Rattle.vl_design.specs.vl_base.specs.declared.number.Number.{Number as Numeral}
use Rattle.vl_design.specs.vl_base.specs.declared.place.Place.{Place}
use Rattle.vl_tree.specs.declared.tree.BinaryOperator.{BinaryOperator}
use Rattle.vl_tree.specs.declared.tree.UnaryOperator.{UnaryOperator}
use Rattle.vl_tree.specs.declared.tree.SelectMark.{SelectMark}
use Rattle.vl_tree.specs.Binding.{row_of}

-- ---- expressions

mutual
  pub data Ex : Type 0 where
    Number : (at : Place) (n : Numeral) → Ex
    Text : (at : Place) (text : List ℕ) → Ex
    Named : (at : Place) (name : List ℕ) (selects : Selects) → Ex
    Paren : (at : Place) (a : Ex) → Ex
    Unary : (at : Place) (op : UnaryOperator) (a : Ex) → Ex
    Binary : (at : Place) (op : BinaryOperator) (a b : Ex) → Ex
    Choice : (at : Place) (test a b : Ex) → Ex
    Joined : (at : Place) (parts : Exs) → Ex
    Repeated : (at : Place) (count : Ex) (parts : Exs) → Ex
    Called : (at : Place) (name : List ℕ) (arguments : Exs) → Ex
    System : (at : Place) (name : List ℕ) (arguments : Args) → Ex

  pub data Exs : Type 0 where
    NoExs : Exs
    MoreExs : (e : Ex) (others : Exs) → Exs

  -- the selects behind a name, in order
  pub data Selects : Type 0 where
    NoSelects : Selects
    -- one index, or two bounds around a mark
    Index : (at : Place) (index : Ex) (others : Selects) → Selects
    Range : (at : Place) (mark : SelectMark) (a b : Ex) (others : Selects) → Selects

  -- arguments of a system call, some of which are empty
  pub data Args : Type 0 where
    NoArgs : Args
    NullArg : (others : Args) → Args
    MoreArgs : (e : Ex) (others : Args) → Args

-- the place of the first token
abbrev pub place_of : Ex → Place
place_of (Number at n) = at
place_of (Text at text) = at
place_of (Named at name ss) = at
place_of (Paren at a) = at
place_of (Unary at op a) = at
place_of (Binary at op a b) = at
place_of (Choice at t a b) = at
place_of (Joined at es) = at
place_of (Repeated at n es) = at
place_of (Called at name es) = at
place_of (System at name args) = at

-- the place of the node: parentheses around it are passed over
abbrev pub node_place : Ex → Place
node_place (Paren at a) = node_place a
node_place e = place_of e

-- an operator with the operand on its right, behind what is bound so far: it goes into the right part of a looser
-- operator (table 5-4)
abbrev pub bound_with : Ex → BinaryOperator → Ex → Ex
bound_with (Binary at p a b) o e = if nat_lt (row_of o) (row_of p) then Binary at p a (bound_with b o e) else Binary at o (Binary at p a b) e
bound_with a o e = Binary (place_of a) o a e

-- ---- left sides

mutual
  pub data Left : Type 0 where
    LeftName : (at : Place) (name : List ℕ) (selects : Selects) → Left
    LeftList : (at : Place) (parts : Lefts) → Left

  pub data Lefts : Type 0 where
    NoLefts : Lefts
    MoreLefts : (l : Left) (others : Lefts) → Lefts

abbrev pub left_place : Left → Place
left_place (LeftName at name ss) = at
left_place (LeftList at ls) = at

-- ---- statements

mutual
  pub data Statement : Type 0 where
    Null : (at : Place) → Statement
    Block : (at : Place) (parts : Statements) → Statement
    -- a missing `else` is a null statement at the `if`
    If : (at : Place) (test : Ex) (a b : Statement) → Statement
    Case : (at : Place) (wild : Bool) (subject : Ex) (items : CaseItems) → Statement
    For : (at : Place) (target : Left) (start test : Ex) (stepped : Left) (step : Ex) (body : Statement) → Statement
    Repeat : (at : Place) (count : Ex) (body : Statement) → Statement
    Assign : (at : Place) (blocking : Bool) (target : Left) (value : Ex) → Statement
    Task : (at : Place) (name : List ℕ) (arguments : Args) → Statement

  pub data Statements : Type 0 where
    NoStatements : Statements
    MoreStatements : (a : Statement) (others : Statements) → Statements

  pub data CaseItems : Type 0 where
    NoItems : CaseItems
    Labelled : (labels : Exs) (body : Statement) (others : CaseItems) → CaseItems
    Default : (body : Statement) (others : CaseItems) → CaseItems
