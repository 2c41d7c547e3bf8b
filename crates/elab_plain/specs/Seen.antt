-- The plain data of bound trees.
use Rattle.std.specs.Prelude.{List, [], ◌∷◌}
use Rattle.vl_tree.specs.vl_base.specs.declared.number.Number.{Number}
use Rattle.elab_plain.specs.declared.surface.Numeral.{Numeral}
use Rattle.elab_plain.specs.declared.surface.Ex as e
use Rattle.elab_plain.specs.declared.surface.Select as s
use Rattle.elab_plain.specs.declared.surface.Argument as a
use Rattle.vl_flat.specs.Surface as x

abbrev pub number_of : Numeral → Number
number_of n = record { value = n.bits.value; care = n.care; width = n.bits.width; sized = n.sized; signed = n.signed }

abbrev mutual
  pub seen : e.Ex → x.Ex
  seen (e.Number at n) = x.Number at (number_of n)
  seen (e.Text at text) = x.Text at text
  seen (e.Named' at name _ row) = x.Named at name (row_selects row)
  seen (e.Paren' at _ b) = x.Paren at (seen b)
  seen (e.Unary' at op _ b) = x.Unary at op (seen b)
  seen (e.Binary' at op _ b _ c) = x.Binary at op (seen b) (seen c)
  seen (e.Choice' at _ t _ b _ c) = x.Choice at (seen t) (seen b) (seen c)
  seen (e.Joined' at _ row) = x.Joined at (row_exs row)
  seen (e.Repeated' at _ n _ row) = x.Repeated at (seen n) (row_exs row)
  seen (e.Called' at name _ row) = x.Called at name (row_exs row)
  seen (e.System' at name _ row) = x.System at name (row_args row)

  pub row_exs : {m : _} → e.Row_of-Ex m → x.Exs
  row_exs e.end_of-Ex = x.NoExs
  row_exs (e.more_of-Ex b rest) = x.MoreExs (seen b) (row_exs rest)

  pub row_selects : {m : _} → e.Row_of-Select m → x.Selects
  row_selects e.end_of-Select = x.NoSelects
  row_selects (e.more_of-Select b rest) = select b (row_selects rest)

  pub select : s.Select → x.Selects → x.Selects
  select (s.Index at i) others = x.Index at (seen i) others
  select (s.Range at mark l r) others = x.Range at mark (seen l) (seen r) others

  pub row_args : {m : _} → e.Row_of-Argument m → x.Args
  row_args e.end_of-Argument = x.NoArgs
  row_args (e.more_of-Argument b rest) = argument b (row_args rest)

  pub argument : a.Argument → x.Args → x.Args
  argument a.Null others = x.NullArg others
  argument (a.Value b) others = x.MoreArgs (seen b) others

-- selects, and arguments, before others
abbrev pub selects_before : List s.Select → x.Selects → x.Selects
selects_before [] others = others
selects_before (b ∷ bs) others = select b (selects_before bs others)

abbrev pub args_before : List a.Argument → x.Args → x.Args
args_before [] others = others
args_before (b ∷ bs) others = argument b (args_before bs others)
