-- That cells and writes do what a node does, before the cells that aren't needed are left out (own).
use Rattle.std.specs.Prelude.{◌≡◌, ◌≤◌, ℕ, ◌+◌, Bool, true, false, List, [], length, map, slice_get, Option, Some}
use Rattle.std.specs.List.{AllByRecursion}
use Rattle.vl_design.specs.vl_base.specs.declared.files.File.{File}
use Rattle.vl_design.specs.Functions.{scope_of}
use Rattle.vl_design.specs.State.{sample}
use Rattle.vl_design.specs.Syntax.{Task, Flat}
use Rattle.cell_emit.specs.cell_form.specs.declared.cell.Write.{Write}
use Rattle.cell_emit.specs.cell_form.specs.Cycle.{written}
use Rattle.cell_emit.specs.cell_form.specs.Data.{ListData, BankData}
use Rattle.cell_emit.specs.cell_form.specs.Sound.{Shape, IsWrite}
use Rattle.cell_emit.specs.Slots.{held, IsIn, AreSound}
use Rattle.cell_emit.specs.Envs.{Env}
use Rattle.cell_emit.specs.declared.pending.Site.{Site}
use Rattle.cell_emit.specs.Pendings.{PendingSlots}
use Rattle.cell_waves.specs.Reading.{Reads}
use Rattle.cell_waves.specs.Begins.{Begins}
use Rattle.ten_form.specs.sub_nodes.specs.Nodes.{Segment, WayOn, Commit, Node}
use Rattle.ten_form.specs.sub_nodes.specs.Cycles.{Stage, segment_done}
use Rattle.ten_form.specs.Banks.{cell_nodes, stores_after, IsFor}
use Rattle.ten_form.specs.Asked.{asked}
use Rattle.ten_form.specs.States.{behind, MayCycle, HoldsStage}
use Rattle.cell_states.specs.declared.run.Kept.{Kept}
use Rattle.cell_trim.specs.Widths.{IsWithin}
use Rattle.cell_states.specs.Cells.{segment_count}
use Rattle.cell_states.specs.Widths.{register_width}
use Rattle.cell_states.specs.Segments.{DoesSegment}

-- the wave ends there
abbrev pub is_end : WayOn → Bool
is_end (Commit to) = true
is_end on = false

-- cells from slot 0 on, and writes behind them, do what a node does
pub record IsMade (d : Flat) (order : List ℕ) (n : ℕ) (x : Node) (l : ListData) (sets : List Write) : Type 0 where
  pub sound : (z : Shape) → IsFor d 0 z → AreSound z l
  pub writes : (z : Shape) → IsFor d 0 z → AllByRecursion (IsWrite z l.first (length l.cells)) sets
  pub narrow : AllByRecursion (IsWithin (register_width d) l) sets
  pub does : (files : List File) (b : BankData) (i : Stage) → MayCycle d order files n x 0 b i → HoldsStage d (written (held b l) sets b) (behind d order files x i)

-- cells from slot 0 on, and their slots, are what a state begins with
abbrev pub IsBase : Flat → List ℕ → ListData → Env → PendingSlots → Type 0
IsBase d order l at p = Begins d order (record { first = 0; cells = []; sets = [] }) l at p

-- cells from slot 0 on do what a state begins with, read what is pending in the stores of the nodes from this number on as sites, and then
-- do a segment
pub record Starts (d : Flat) (order : List ℕ) (n : ℕ) (g : Segment) (l : ListData) (at at' : Env) (p p' : PendingSlots) (sites : List Site) (ticks : Option ℕ) : Type 0 where
  pub first : ListData
  pub second : ListData
  pub begins : IsBase d order first at p
  pub reads : Reads d.rows (stores_after d n) first second [] sites
  pub does : DoesSegment d g at at' (record p { sites = sites }) p' second l ticks
  pub few : length l.cells ≤ segment_count d order (length (stores_after d n)) g

-- slots of a list hold what a call is given behind a segment
pub record AsksBehind (d : Flat) (order : List ℕ) (n : ℕ) (g : Segment) (x : Node) (l : ListData) (task : Task) (args : List ℕ) : Type 0 where
  pub there : AllByRecursion (IsIn l) args
  pub asks : (files : List File) (b : BankData) (i : Stage) → MayCycle d order files n x 0 b i → map (held b l) args ≡ asked (scope_of d files) (sample (segment_done (scope_of d files) g i.state)) task

-- the stores that the state of a node reads, and those that it keeps
pub record IsKept (d : Flat) (n : ℕ) (kept : Kept) (x : Node) : Type 0 where
  pub there : slice_get (cell_nodes d) n ≡ Some x
  pub above : kept.above.now ≡ stores_after d (n + 1)
  pub all : kept.all.now ≡ stores_after d n
