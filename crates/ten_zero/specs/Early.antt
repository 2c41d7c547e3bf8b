-- Time zero of a run (IEEE 1364-2005, clauses 9.9.1 and 11.3).
use Rattle.std.specs.Prelude.{◌≡◌, ℕ, false, true, List, [], if◌then◌else◌, slice_get, None}
use Rattle.vl_design.specs.vl_base.specs.declared.files.File.{File}
use Rattle.vl_design.specs.Alone.{Origin, Plan, blocks}
use Rattle.vl_design.specs.Functions.{fresh, scope_of, zeros}
use Rattle.vl_design.specs.Laws.{IsTable}
use Rattle.vl_design.specs.Queue.{is_init, with_updates}
use Rattle.vl_design.specs.State.{State, counted}
use Rattle.vl_design.specs.Syntax.{Flat}
use Rattle.vl_design.specs.Trees.{flat_of}
use Rattle.vl_design.specs.Width.{Scope, names_of}
use Rattle.vl_run.specs.Machines.{state_of, IsMachine}
use Rattle.sub_runs.specs.sub_nodes.specs.Code.{table_of}
use Rattle.sub_runs.specs.sub_nodes.specs.Cycles.{Stage, execs, rises, settled}
use Rattle.sub_runs.specs.sub_nodes.specs.Implements.{bodies}
use Rattle.sub_runs.specs.sub_nodes.specs.Stands.{Comes}
use Rattle.sub_runs.specs.Nets.{nets_of}
use Rattle.ten_zero.specs.declared.early.Early.{Early}
use Rattle.ten_zero.specs.declared.setting.Setting.{Setting}

abbrev pub flat_in : Setting → Flat
flat_in r = flat_of r.design.now

abbrev pub scope_in : Setting → Scope
scope_in r = scope_of (flat_of r.design.now) r.files.now

-- the state of a run that has come so far
abbrev pub state_in : Early → State
state_in e = state_of e.machine e.acts

-- ---- what time zero comes to

-- the initial blocks, one after another: once the run has finished, nothing changes
abbrev pub blocks_done : Flat → List File → State → State
blocks_done d files s = execs (scope_of d files) (bodies (blocks is_init d.procs)) s

-- the end of their wave, and its update: behind both nets settle in one pass in order
abbrev pub wave_done : Flat → List File → List ℕ → State → State
wave_done d files order s =
    settled d files (nets_of d files order) (counted (with_updates d.rows (settled d files (nets_of d files order) (counted s))))

-- from before time zero
abbrev pub zero_done : Flat → List File → List ℕ → State
zero_done d files order =
    let s = blocks_done d files (fresh (zeros d.rows)) in
    if s.finished then s else wave_done d files order s

-- ---- in the run of the design's table

-- a design alone from time zero over these files, by this plan
abbrev pub from_zero : Flat → List File → Plan → Origin
from_zero d files plan = record { flat = d; files = files; plan = plan; resume = None }

-- the stage is at the first boundary: the clock rises next, and all is committed
pub record IsAtFirst (d : Flat) (i : Stage) : Type 0 where
  pub rises : rises (slice_get (table_of d).nodes i.node) ≡ true
  pub committed : i.committed ≡ i.state.values
  pub later : i.state.later ≡ []

-- the run of the design's table over these files has come to this stage behind time zero, and has finished or is at the first boundary
pub record ComesBehind (d : Flat) (files : List File) (order : List ℕ) (plan : Plan) (e : Early) : Type 0 where
  pub stage : Stage
  pub comes : Comes (from_zero d files plan) (table_of d) (nets_of d files order) e.acts stage
  pub state : stage.state ≡ state_in e
  pub first : e.machine.finished ≡ false → IsAtFirst d stage

-- so it is by each plan; no tick has begun, and files are open in order
pub record IsBehindZero (d : Flat) (files : List File) (order : List ℕ) (e : Early) : Type 0 where
  pub machine : IsMachine (names_of d) e.machine
  pub ticks : e.machine.ticks ≡ 0
  pub table : IsTable files e.machine.table.items
  pub comes : (plan : Plan) → ComesBehind d files order plan e
