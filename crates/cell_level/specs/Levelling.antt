-- The order of a design's processes, or why there is none (IEEE 1364-2005, clauses 6.1 and 9.7.5; own).
use Rattle.std.specs.Prelude.{◌≡◌, ℕ, List, length, nat_lt, if◌then◌else◌}
use Rattle.vl_bits.specs.vl_design.specs.Syntax.{Flat}
use Rattle.vl_bits.specs.vl_paths.specs.Graph.{Edge, Levelled}
use Rattle.cell_level.specs.Cycles.{times, IsLowestCycle}
use Rattle.cell_level.specs.declared.nets.Levels.{Levels}
use Rattle.cell_level.specs.declared.nets.Levels.TheVariants.{Ordered, Loop}

-- each process stands in the order once; a combinational one reads nothing that it or one behind it drives
pub record IsOrder (d : Flat) (order : List ℕ) : Type 0 where
  pub once : (p : ℕ) → times p order ≡ (if nat_lt p (length d.procs) then 1 else 0)
  pub levelled : Levelled d order

abbrev pub IsLevel : Flat → Levels → Type 0
IsLevel d (Ordered v) = IsOrder d v.items
IsLevel d (Loop v) = IsLowestCycle (Edge d) v.items
