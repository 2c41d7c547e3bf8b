-- The plain data of lists of the grammar's trees.
use Rattle.std.specs.Prelude.{List, [], ◌∷◌, Option, Some, None}
use Rattle.vl_tree.specs.vl_base.specs.declared.place.Place.{Place}
use Rattle.vl_tree.specs.declared.tree.Choice.{Choice}
use Rattle.vl_tree.specs.declared.tree.Link.{Link, out-Link}
use Rattle.vl_tree.specs.declared.tree.Unary.{Unary, out-Unary}
use Rattle.vl_tree.specs.declared.tree.Select.{Select}
use Rattle.vl_tree.specs.declared.tree.Bound.{Bound}
use Rattle.vl_tree.specs.declared.tree.SystemArgument.{SystemArgument}
use Rattle.vl_tree.specs.declared.tree.Expression.{Expression}
use Rattle.vl_flat.specs.Binding as f
use Rattle.vl_flat.specs.Surface as x

-- expressions one after another
abbrev pub of_list : List x.Ex → x.Exs
of_list [] = x.NoExs
of_list (e ∷ es) = x.MoreExs e (of_list es)

-- an operand with its marks
abbrev pub unary : Unary → x.Ex
unary u = f.marked (out-Unary u).operators (f.primary (out-Unary u).primary)

-- links behind what is bound so far
abbrev pub linked : List Link → x.Ex → x.Ex
linked [] e = e
linked (l ∷ ls) e = linked ls (x.bound_with e (out-Link l).operator (unary (out-Link l).operand))

abbrev pub chosen : Option Choice → Place → x.Ex → x.Ex
chosen None at t = t
chosen (Some two) at t = f.branches two at t

-- selects before others
abbrev pub selects_before : List Select → x.Selects → x.Selects
selects_before [] others = others
selects_before (s ∷ ss) others = f.select s (selects_before ss others)

abbrev pub bounds : Option Bound → Place → x.Ex → x.Selects → x.Selects
bounds None at i others = x.Index at i others
bounds (Some two) at i others = f.range two at i others

-- arguments before others
abbrev pub args_before : List SystemArgument → x.Args → x.Args
args_before [] others = others
args_before (a ∷ as') others = f.argument a (args_before as' others)

abbrev pub given : Option (List SystemArgument) → x.Args
given None = x.NoArgs
given (Some as') = args_before as' x.NoArgs

abbrev pub held : Option Expression → x.Args → x.Args
held None others = x.NullArg others
held (Some e) others = x.MoreArgs (f.ex e) others
