-- Expressions, their selects and arguments of the design one after another.
use Rattle.std.specs.Prelude.{List, [], ◌∷◌, fold, ℤ, Option, None}
use Rattle.vl_base.specs.declared.place.Place.{Place}
use Rattle.vl_design.specs.declared.design.SysArg.{SysArg}
use Rattle.vl_design.specs.Placed as p
use Rattle.vl_design.specs.Seen.{arg}
use Rattle.elab_plain.specs.vl_flat.specs.declared.binding.Binding.{Binding}
use Rattle.elab_plain.specs.vl_flat.specs.Surface.{Selects}
use Rattle.elab_plain.specs.vl_flat.specs.Scopes.{Scope}
use Rattle.elab_plain.specs.vl_flat.specs.Expressions.{exp, whole, stepped, steps, steps_of}
use Rattle.elab_plain.specs.declared.surface.Ex.{Ex as Bound}
use Rattle.elab_plain.specs.Seen.{seen}

-- expressions of the design one after another
abbrev pub listed : List p.Exp → p.Exps
listed [] = p.NoExps
listed (x ∷ xs) = p.MoreExps x (listed xs)

-- a bound expression in the design
abbrev pub seen_exp : Scope → Bound → p.Exp
seen_exp scope e = exp scope (seen e)

-- arguments before others
abbrev pub args_with : List SysArg → p.Args → p.Args
args_with [] others = others
args_with (a ∷ as') others = arg a (args_with as' others)

-- a value whose bits are numbered so behind selects
abbrev pub selected : Scope → Place → ℤ × ℤ → p.Exp → Selects → p.Exp
selected scope at r base ss = fold (stepped at) base (steps scope None r ss)

-- a name with its selects
abbrev pub named : Scope → Place → Option Binding → Selects → p.Exp
named scope at b ss = fold (stepped at) (whole at b) (steps_of scope b ss)
