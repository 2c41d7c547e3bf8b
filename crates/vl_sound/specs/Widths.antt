-- Parameters of 1 to 128 bits (IEEE 1364-2005, clause 4.10; the bound is own).
use Rattle.std.specs.Prelude.{ℕ, ⊤, List, Option, Some}
use Rattle.vl_flat.specs.vl_design.specs.Sound.{IsWidth}
use Rattle.vl_flat.specs.declared.binding.Binding.{Binding}
use Rattle.vl_flat.specs.declared.binding.Binding.TheVariants.{Constant}
use Rattle.vl_flat.specs.Scopes.{Env}

-- what is a parameter has from 1 to 128 bits
abbrev pub HasWidth : Option Binding → Type 0
HasWidth (Some (Constant a)) = IsWidth a.width
HasWidth b = ⊤

-- each parameter among the names does
abbrev pub HaveWidths : Env → Type 0
HaveWidths env = (t : List ℕ) → HasWidth (env t)
