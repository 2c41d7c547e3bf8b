-- Lists of sized expressions.
use Rattle.std.specs.Prelude.{ℕ, ◌+◌, max, List, [], ◌∷◌}
use Rattle.vl_design.specs.declared.design.Expr.{Expr}
use Rattle.vl_design.specs.Sized.{Sized, At}
use Rattle.vl_design.specs.Trees.{exp_of, exps_of}
use Rattle.vl_design.specs.Width.{Names}
use Rattle.vl_design.specs.Sound.{AreSound}
use Rattle.vl_width.specs.Widths.{width_of, form_of}
use Rattle.vl_width.specs.Sizing.{own, read_at}

abbrev pub each_at : Sized → Sized
each_at x = read_at x (form_of x)

-- the width and sign of each at least those of its input, as assigned (clause 10.4.3)
abbrev pub at_input : Sized → ℕ → Sized
at_input (At w signed n) input = At (max input w) signed n

-- arguments as assigned to inputs of these widths
abbrev pub at_inputs : List Sized → List ℕ → List Sized
at_inputs [] widths = []
at_inputs (x ∷ xs) [] = []
at_inputs (x ∷ xs) (w ∷ ws) = at_input x w ∷ at_inputs xs ws

abbrev pub widths_together : List Sized → ℕ
widths_together [] = 0
widths_together (x ∷ xs) = width_of x + widths_together xs

-- each expression of a list is sound
abbrev pub AreAllSound : Names → List Expr → Type 0
AreAllSound names es = AreSound names (exps_of es)

abbrev pub own_of : Names → Expr → Sized
own_of names e = own names (exp_of e)
