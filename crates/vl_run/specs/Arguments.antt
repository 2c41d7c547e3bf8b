-- The arguments that system calls begin with (IEEE 1364-2005, clause 17).
use Rattle.std.specs.Prelude.{ℕ, List, ◌∷◌, Option, Some, None}
use Rattle.vl_design.specs.Formats.{Arg, Str, Value}
use Rattle.vl_design.specs.Syntax.{Exp, Sig}

-- a string
abbrev pub text_in : List Arg → Option (List ℕ)
text_in (Str text ∷ args) = Some text
text_in args = None

-- an expression
abbrev pub value_in : List Arg → Option Exp
value_in (Value e ∷ args) = Some e
value_in args = None

-- the signal that an expression is
abbrev pub signal_of : Exp → Option ℕ
signal_of (Sig k) = Some k
signal_of e = None

-- a signal
abbrev pub signal_in : List Arg → Option ℕ
signal_in (Value e ∷ args) = signal_of e
signal_in args = None
