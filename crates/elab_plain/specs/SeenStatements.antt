-- The plain data of left sides and statements.
use Rattle.std.specs.Prelude.{List, [], ◌∷◌, map}
use Rattle.elab_plain.specs.declared.surface.Left as l
use Rattle.elab_plain.specs.declared.surface.Statement as s
use Rattle.elab_plain.specs.declared.surface.CaseItem as c
use Rattle.vl_tree.specs.declared.source_tree.CaseItem.{CaseItem as CaseItemTree}
use Rattle.vl_flat.specs.Binding as f
use Rattle.vl_flat.specs.Surface as x
use Rattle.elab_plain.specs.Seen.{seen, selects_before, args_before}
use Rattle.elab_plain.specs.Listed.{of_list}

abbrev pub lefts_of : List x.Left → x.Lefts
lefts_of [] = x.NoLefts
lefts_of (a ∷ as') = x.MoreLefts a (lefts_of as')

abbrev mutual
  pub seen_left : l.Left → x.Left
  seen_left (l.Name at t v) = x.LeftName at t (selects_before v.items x.NoSelects)
  seen_left (l.List' at _ row) = x.LeftList at (row_lefts row)

  pub row_lefts : {m : _} → l.Row_of-Left m → x.Lefts
  row_lefts l.end_of-Left = x.NoLefts
  row_lefts (l.more_of-Left a rest) = x.MoreLefts (seen_left a) (row_lefts rest)

abbrev pub statements_of : List x.Statement → x.Statements
statements_of [] = x.NoStatements
statements_of (a ∷ as') = x.MoreStatements a (statements_of as')

abbrev mutual
  pub seen_statement : s.Statement → x.Statement
  seen_statement (s.Null at) = x.Null at
  seen_statement (s.Block' at _ row) = x.Block at (row_statements row)
  seen_statement (s.If' at t _ a _ b) = x.If at (seen t) (seen_statement a) (seen_statement b)
  seen_statement (s.Case' at wild e _ row) = x.Case at wild (seen e) (row_items row)
  seen_statement (s.For' at l e t l' e' _ a) = x.For at (seen_left l) (seen e) (seen t) (seen_left l') (seen e') (seen_statement a)
  seen_statement (s.Repeat' at n _ a) = x.Repeat at (seen n) (seen_statement a)
  seen_statement (s.Assign at blocking l e) = x.Assign at blocking (seen_left l) (seen e)
  seen_statement (s.Task at t v) = x.Task at t (args_before v.items x.NoArgs)

  pub row_statements : {m : _} → s.Row_of-Statement m → x.Statements
  row_statements s.end_of-Statement = x.NoStatements
  row_statements (s.more_of-Statement a rest) = x.MoreStatements (seen_statement a) (row_statements rest)

  pub row_items : {m : _} → s.Row_of-CaseItem m → x.CaseItems
  row_items s.end_of-CaseItem = x.NoItems
  row_items (s.more_of-CaseItem a rest) = item a (row_items rest)

  pub item : c.CaseItem → x.CaseItems → x.CaseItems
  item (c.Labelled labels a) others = x.Labelled (of_list (map seen labels.items)) (seen_statement a) others
  item (c.Default a) others = x.Default (seen_statement a) others

-- items before others
abbrev pub items_before : List c.CaseItem → x.CaseItems → x.CaseItems
items_before [] others = others
items_before (a ∷ as') others = item a (items_before as' others)

-- the grammar's items before others
abbrev pub trees_before : List CaseItemTree → x.CaseItems → x.CaseItems
trees_before [] others = others
trees_before (a ∷ as') others = f.case_item a (trees_before as' others)
