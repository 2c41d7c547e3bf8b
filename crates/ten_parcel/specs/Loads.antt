-- Where a tenant's run is that has begun (own).
use Rattle.std.specs.Prelude.{◌≡◌, ℕ, ◌≤◌, false, true, List, Option, Some, None, slice_get, ⊤}
use Rattle.std.specs.Arc.{arc_value}
use Rattle.vl_eval.specs.vl_base.specs.declared.files.File.{File}
use Rattle.vl_eval.specs.vl_design.specs.Alone.{first_tick}
use Rattle.vl_eval.specs.vl_design.specs.Laws.{IsTable, IsUnrolled}
use Rattle.vl_eval.specs.vl_design.specs.Syntax.{Flat}
use Rattle.vl_eval.specs.vl_design.specs.Trees.{flat_of}
use Rattle.vl_run.specs.declared.machine.Machine.{Machine}
use Rattle.ten_form.specs.vl_runs.specs.Checked.{IsChecked, IsOrder}
use Rattle.ten_core.specs.cell_form.specs.Data.{BankData}
use Rattle.ten_core.specs.cell_form.specs.Views.{bank_of}
use Rattle.ten_core.specs.reg_ports.specs.Refusals.{AreFit}
use Rattle.sub_nodes.specs.Code.{table_of}
use Rattle.sub_nodes.specs.Cycles.{Stage, rises}
use Rattle.ten_core.specs.declared.engine.Engine.{Engine}
use Rattle.ten_core.specs.declared.origin.Origin.{Origin}
use Rattle.ten_core.specs.Runs.{IsAt}
use Rattle.ten_core.specs.Tenants.{origin_of, tenant_of, IsImage}
use Rattle.vl_run.specs.ten_files.specs.declared.row.Row.{Row}
use Rattle.ten_core.specs.Holding.{CanBeHeld}
use Rattle.ten_core.specs.Ports.{ports_of}
use Rattle.ten_core.specs.ten_plan.specs.declared.held.Held.{Held}
use Rattle.ten_zero.specs.declared.early.Early.{Early}
use Rattle.ten_zero.specs.Early.{IsBehindZero}
use Rattle.ten_parcel.specs.declared.load.Begun.{Begun}
use Rattle.ten_parcel.specs.declared.load.Begun.TheVariants as b
use Rattle.ten_core.specs.Begins.{flat_in, Begins}

-- ---- what has begun

-- the engine has this origin, what a machine has, and these rows of open files, after so many acts; a tick begins with the state that
-- is next, and no call waits
pub record IsEngineAt (x : Origin) (rows : List (Option Row)) (m : Machine) (acts : ℕ) (e : Engine) : Type 0 where
  pub origin : arc_value e.origin ≡ x
  pub opened : e.open ≡ rows
  pub printed : e.printed.items ≡ m.printed.items
  pub asked : e.asked.items ≡ m.saves.items
  pub ticks : e.ticks ≡ m.ticks
  pub cycles : e.cycles ≡ acts
  pub next : e.next ≡ x.image.rise
  pub waits : e.waits ≡ false
  pub finished : e.finished ≡ false

-- the run has finished in time zero
pub record IsOverAtOnce (x y : Origin) (e : Early) : Type 0 where
  pub origin : y ≡ x
  pub start : x.start ≡ None
  pub behind : IsBehindZero (flat_in x) x.files x.image.order.items e
  pub finished : e.machine.finished ≡ true

abbrev pub IsBegun : Origin → Begun → Type 0
IsBegun x (b.Runs e bank) = Begins x e (bank_of bank)
IsBegun x (b.Over y e) = IsOverAtOnce x (arc_value y) e
