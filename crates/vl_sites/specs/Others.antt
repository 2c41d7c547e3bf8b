-- Signals that nothing keeps and nothing computes: loop variables, and clocks (IEEE 1364-2005, clauses 9.6 and 9.7.2).
use Rattle.std.specs.Prelude.{◌≡◌, ℕ, Bool, true, false, List, slice_get, All, Option, Some, None}
use Rattle.vl_design.specs.declared.design.SigKind.{SigKind}
use Rattle.vl_design.specs.declared.design.SigKind.TheVariants.{Loop, Clock}
use Rattle.vl_design.specs.Reads.{stm_writes}
use Rattle.vl_design.specs.Syntax.{Row, Flat}

abbrev pub is_other : SigKind → Bool
is_other Loop = true
is_other Clock = true
is_other kind = false

abbrev pub is_other_row : Option Row → Bool
is_other_row None = false
is_other_row (Some r) = is_other r.kind

-- the signal of a number is one
abbrev pub other_at : List Row → ℕ → Bool
other_at rows k = is_other_row (slice_get rows k)

-- no process writes one, in a design without loops
pub record WritesNoOthers (d : Flat) : Type 0 where
  pub procs : All (λ p. stm_writes (other_at d.rows) p.body ≡ false) d.procs
