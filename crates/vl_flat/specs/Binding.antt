-- The plain data of each of the grammar's trees, with operators bound (IEEE 1364-2005, clause 5.1.2).
use Rattle.std.specs.Prelude.{◌^◌, nat_le, nat_lt, Bool, true, false, ◌&&◌, List, [], ◌∷◌, if◌then◌else◌}
use Rattle.vl_design.specs.vl_base.specs.declared.number.Number.{Number}
use Rattle.vl_design.specs.vl_base.specs.declared.place.Place.{Place}
use Rattle.vl_tree.specs.declared.tree.Expression as e
use Rattle.vl_tree.specs.declared.tree.Binary as b
use Rattle.vl_tree.specs.declared.tree.Link as k
use Rattle.vl_tree.specs.declared.tree.Choice as c
use Rattle.vl_tree.specs.declared.tree.Primary as p
use Rattle.vl_tree.specs.declared.tree.Name as n
use Rattle.vl_tree.specs.declared.tree.Select as s
use Rattle.vl_tree.specs.declared.tree.Bound as d
use Rattle.vl_tree.specs.declared.tree.SystemCall as y
use Rattle.vl_tree.specs.declared.tree.SystemArgument as a
use Rattle.vl_tree.specs.declared.tree.UnaryMark.{UnaryMark}
use Rattle.vl_tree.specs.declared.source_tree.Lvalue as l
use Rattle.vl_tree.specs.declared.source_tree.Statement as t
use Rattle.vl_tree.specs.declared.source_tree.CaseItem as i
use Rattle.vl_tree.specs.declared.source_tree.CaseKeyword.{CaseKeyword}
use Rattle.vl_tree.specs.declared.source_tree.CaseKeyword.TheVariants.{Case, Casez}
use Rattle.vl_tree.specs.declared.source_tree.AssignMark.{AssignMark}
use Rattle.vl_tree.specs.declared.source_tree.AssignMark.TheVariants.{Blocking, Nonblocking}
use Rattle.vl_flat.specs.Surface as x

-- marks before an operand, the innermost last
abbrev pub marked : List UnaryMark → x.Ex → x.Ex
marked [] e = e
marked (m ∷ ms) e = x.Unary m.place m.operator (marked ms e)

-- a number has 1 to 128 bits, and its value and the bits that count fit; what else a tree may hold, no text has, and it
-- counts as one zero bit
abbrev pub is_proper : Number → Bool
is_proper n = nat_le 1 n.width && (nat_le n.width 128 && (nat_lt n.value (2 ^ n.width) && nat_lt n.care (2 ^ n.width)))

abbrev pub zero_bit : Number
zero_bit = record { value = 0; care = 1; width = 1; sized = true; signed = false }

abbrev pub proper : Number → Number
proper n = if is_proper n then n else zero_bit

-- what stands in no place: no tree has it
abbrev pub nothing : x.Ex
nothing = x.Joined (record { line = 0; column = 0 }) x.NoExs

abbrev mutual
  pub ex : e.Expression → x.Ex
  ex (e.Expression' at _ row chosen) = choice chosen at (first_binary row)

  pub choice : e.Held-Expression-choice → Place → x.Ex → x.Ex
  choice e.Expression-choice-None' at t = t
  choice (e.Expression-choice-Some' _ row) at t = first_choice row at t

  pub first_choice : {m : _} → e.Row_of-Choice m → Place → x.Ex → x.Ex
  first_choice e.end_of-Choice at t = nothing
  first_choice (e.more_of-Choice two rest) at t = branches two at t

  pub branches : c.Choice → Place → x.Ex → x.Ex
  branches (c.Choice' a b) at t = x.Choice at t (ex a) (ex b)

  pub first_binary : {m : _} → e.Row_of-Binary m → x.Ex
  first_binary e.end_of-Binary = nothing
  first_binary (e.more_of-Binary one rest) = binary one

  pub binary : b.Binary → x.Ex
  binary (b.Binary' _ _ marks _ row _ links) = bound links (marked marks (first_primary row))

  -- the operators behind what is bound so far
  pub bound : {m : _} → b.Row_of-Link m → x.Ex → x.Ex
  bound b.end_of-Link f = f
  bound (b.more_of-Link o _ marks _ row rest) f = bound rest (x.bound_with f o (marked marks (first_primary row)))

  pub first_primary : {m : _} → k.Row_of-Primary m → x.Ex
  first_primary k.end_of-Primary = nothing
  first_primary (k.more_of-Primary one rest) = primary one

  pub primary : p.Primary → x.Ex
  primary (p.Number at n) = x.Number at (proper n)
  primary (p.Str at text) = x.Text at text
  primary (p.Name name) = named name
  primary (p.Parenthesized' at _ row) = x.Paren at (first row)
  primary (p.Concatenation' at _ row) = x.Joined at (exs row)
  primary (p.Replication' at _ count _ row) = x.Repeated at (first count) (exs row)
  primary (p.Call' name _ row) = x.Called name.place name.name (exs row)
  primary (p.System call) = system call

  pub first : {m : _} → p.Row_of-Expression m → x.Ex
  first p.end_of-Expression = nothing
  first (p.more_of-Expression one rest) = ex one

  pub exs : {m : _} → p.Row_of-Expression m → x.Exs
  exs p.end_of-Expression = x.NoExs
  exs (p.more_of-Expression one rest) = x.MoreExs (ex one) (exs rest)

  pub named : n.Name → x.Ex
  named (n.Name' at name _ row) = x.Named at name.name (selects row)

  pub selects : {m : _} → n.Row_of-Select m → x.Selects
  selects n.end_of-Select = x.NoSelects
  selects (n.more_of-Select one rest) = select one (selects rest)

  pub select : s.Select → x.Selects → x.Selects
  select (s.Select' at i second) others = bounds second at (ex i) others

  pub bounds : s.Held-Select-second → Place → x.Ex → x.Selects → x.Selects
  bounds s.Select-second-None' at i others = x.Index at i others
  bounds (s.Select-second-Some' two) at i others = range two at i others

  pub range : d.Bound → Place → x.Ex → x.Selects → x.Selects
  range (d.Bound' mark w) at i others = x.Range at mark i (ex w) others

  pub system : y.SystemCall → x.Ex
  system (y.SystemCall' at name given) = x.System at name (arguments given)

  pub arguments : y.Held-SystemCall-arguments → x.Args
  arguments y.SystemCall-arguments-None' = x.NoArgs
  arguments (y.SystemCall-arguments-Some' _ row) = args row

  pub args : {m : _} → y.Row_of-SystemArgument m → x.Args
  args y.end_of-SystemArgument = x.NoArgs
  args (y.more_of-SystemArgument one rest) = argument one (args rest)

  pub argument : a.SystemArgument → x.Args → x.Args
  argument (a.SystemArgument' one) others = held one others

  pub held : a.Held-SystemArgument-argument → x.Args → x.Args
  held a.SystemArgument-argument-None' others = x.NullArg others
  held (a.SystemArgument-argument-Some' e) others = x.MoreArgs (ex e) others

-- ---- left sides

-- a name with its selects, as a left side
abbrev pub left_named : x.Ex → x.Left
left_named (x.Named at name ss) = x.LeftName at name ss
left_named e = x.LeftList (x.place_of e) x.NoLefts

abbrev mutual
  pub left : l.Lvalue → x.Left
  left (l.Name name) = left_named (named name)
  left (l.Concatenation' at _ row) = x.LeftList at (lefts row)

  pub lefts : {m : _} → l.Row_of-Lvalue m → x.Lefts
  lefts l.end_of-Lvalue = x.NoLefts
  lefts (l.more_of-Lvalue one rest) = x.MoreLefts (left one) (lefts rest)

-- ---- statements

-- a system call as a statement
abbrev pub task : Place → x.Ex → x.Statement
task at (x.System _ name args) = x.Task at name args
task at e = x.Null at

abbrev pub is_wild : CaseKeyword → Bool
is_wild Case = false
is_wild Casez = true

abbrev pub is_blocking : AssignMark → Bool
is_blocking Blocking = true
is_blocking Nonblocking = false

abbrev pub list_exs : List e.Expression → x.Exs
list_exs [] = x.NoExs
list_exs (a ∷ as') = x.MoreExs (ex a) (list_exs as')

abbrev mutual
  pub statement : t.Statement → x.Statement
  statement (t.Null at) = x.Null at
  statement (t.Block' at _ row) = x.Block at (statements row)
  statement (t.If' at test _ row otherwise) = x.If at (ex test) (first_statement row) (other otherwise at)
  statement (t.Case' at word subject _ row) = x.Case at (is_wild word) (ex subject) (case_items row)
  statement (t.For' at start test step _ row) =
      x.For at (left start.target) (ex start.value) (ex test) (left step.target) (ex step.value) (first_statement row)
  statement (t.Repeat' at count _ row) = x.Repeat at (ex count) (first_statement row)
  statement (t.Assign at target mark value) = x.Assign at (is_blocking mark) (left target) (ex value)
  statement (t.System at call) = task at (system call)

  pub other : t.Held-Statement-If-3 → Place → x.Statement
  other t.None' at = x.Null at
  other (t.Some' _ row) at = first_statement row

  pub first_statement : {m : _} → t.Row_of-Statement m → x.Statement
  first_statement t.end_of-Statement = x.Null (record { line = 0; column = 0 })
  first_statement (t.more_of-Statement one rest) = statement one

  pub statements : {m : _} → t.Row_of-Statement m → x.Statements
  statements t.end_of-Statement = x.NoStatements
  statements (t.more_of-Statement one rest) = x.MoreStatements (statement one) (statements rest)

  pub case_items : {m : _} → t.Row_of-CaseItem m → x.CaseItems
  case_items t.end_of-CaseItem = x.NoItems
  case_items (t.more_of-CaseItem one rest) = case_item one (case_items rest)

  pub case_item : i.CaseItem → x.CaseItems → x.CaseItems
  case_item (i.Labels' at labels _ row) others = x.Labelled (list_exs labels) (first_statement row) others
  case_item (i.Default' at _ row) others = x.Default (first_statement row) others
