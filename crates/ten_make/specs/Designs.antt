-- Designs whose runs are done by states of cells (IEEE 1364-2005, clauses 6.1, 9.2 and 10.4; own).
use Rattle.std.specs.Prelude.{ℕ, ◌≤◌, ◌==◌, List, length, count_by, All}
use Rattle.ten_core.specs.vl_design.specs.Laws.{IsUnrolled}
use Rattle.ten_core.specs.vl_design.specs.Sound.{IsSound}
use Rattle.ten_core.specs.vl_design.specs.Syntax.{Flat}
use Rattle.ten_core.specs.vl_design.specs.Width.{names_of}
use Rattle.sub_runs.specs.vl_runs.specs.Checked.{IsChecked, IsOrder}
use Rattle.cell_states.specs.cell_emit.specs.Envs.{HasOneWord}
use Rattle.cell_states.specs.cell_expr.specs.Bodies.{IsCellFun}
use Rattle.cell_states.specs.Designs.{ComputesAlone}
use Rattle.sub_runs.specs.Memories.{SetsNoMemories}
use Rattle.sub_runs.specs.Nets.{WritesNoNets}
use Rattle.sub_split.specs.vl_sites.specs.Others.{WritesNoOthers}

-- a sound design without loops that meets the rules of settling, with an order of its processes, each once; combinational processes write
-- computed signals, and no others do; nothing writes loop variables and clocks; clocked blocks write words of memories by nonblocking assignments alone
pub record IsTenantDesign (d : Flat) (order : List ℕ) : Type 0 where
  pub sound : IsSound d
  pub unrolled : IsUnrolled d
  pub functions : All (IsCellFun (names_of d)) d.funs
  pub checked : IsChecked d
  pub ordered : IsOrder d order
  pub once : (p : ℕ) → count_by (λ i. i == p) order ≤ 1
  pub alone : ComputesAlone d
  pub nets : WritesNoNets d
  pub others : WritesNoOthers d
  pub words : HasOneWord d.rows
  pub few : length d.rows ≤ 268435456
  pub memories : SetsNoMemories d
