-- Expressions whose operators the grammar has bound, as plain data (IEEE 1364-2005, clause 5.1.2): what a law speaks of.
use Rattle.elab_plain.specs.vl_tree.specs.Binding.{Term, operand, join}
use Rattle.elab_plain.specs.vl_flat.specs.Surface as x
use Rattle.elab_plain.specs.Listed.{unary}

-- an operator has the place of its left operand
abbrev pub surface : Term → x.Ex
surface (operand u) = unary u
surface (join o a b) = x.Binary (x.place_of (surface a)) o (surface a) (surface b)
