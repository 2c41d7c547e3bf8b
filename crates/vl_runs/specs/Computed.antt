-- Signals that combinational processes compute (IEEE 1364-2005, clauses 6.1 and 9.7.5; own).
use Rattle.std.specs.Prelude.{ℕ, Bool, true, false, List, slice_get, Option, Some, None}
use Rattle.vl_paths.specs.vl_design.specs.declared.design.SigKind.{SigKind}
use Rattle.vl_paths.specs.vl_design.specs.declared.design.SigKind.TheVariants.{Net, Comb}
use Rattle.vl_paths.specs.vl_design.specs.Syntax.{Row}

-- signals of the kind are computed, by combinational processes
abbrev pub is_computed : SigKind → Bool
is_computed Net = true
is_computed Comb = true
is_computed kind = false

abbrev pub is_computed_row : Option Row → Bool
is_computed_row None = false
is_computed_row (Some r) = is_computed r.kind

-- the signal of a number is computed
abbrev pub computed_at : List Row → ℕ → Bool
computed_at rows k = is_computed_row (slice_get rows k)
