-- Functions whose inputs keep their values: none is a loop variable (own; IEEE 1364-2005, clauses 9.6 and 10.4).
use Rattle.std.specs.Prelude.{◌≡◌, ⊤, slice_get, All, Some}
use Rattle.vl_flat.specs.vl_design.specs.declared.design.SigKind.{SigKind}
use Rattle.vl_flat.specs.vl_design.specs.declared.design.SigKind.TheVariants.{Loop}
use Rattle.vl_flat.specs.vl_design.specs.Syntax.{Row, Fun, Flat}
use Rattle.vl_flat.specs.vl_design.specs.Width.{Names, names_of, rows_in}

abbrev pub IsNoLoop : SigKind → Type 0
IsNoLoop Loop = ⊥
IsNoLoop kind = ⊤

-- no input of the function is a loop variable
abbrev pub HasNoLoopInputs : Names → Fun → Type 0
HasNoLoopInputs names f = All (λ k. (r : Row) → slice_get (rows_in names f) k ≡ Some r → IsNoLoop r.kind) f.inputs

-- nor of any function of the design
abbrev pub NoLoopInputs : Flat → Type 0
NoLoopInputs d = All (HasNoLoopInputs (names_of d)) d.funs
