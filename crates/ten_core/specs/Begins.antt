-- What a run can begin from, and an engine at the first boundary of its run.
use Rattle.std.specs.Prelude.{◌≡◌, ℕ, ◌≤◌, false, true, List, Option, Some, None, slice_get, ⊤}
use Rattle.std.specs.Arc.{arc_value}
use Rattle.vl_design.specs.vl_base.specs.declared.files.File.{File}
use Rattle.vl_design.specs.Alone.{first_tick}
use Rattle.vl_design.specs.Laws.{IsTable, IsUnrolled}
use Rattle.vl_design.specs.Syntax.{Flat}
use Rattle.vl_design.specs.Trees.{flat_of}
use Rattle.ten_form.specs.vl_runs.specs.Checked.{IsChecked, IsOrder}
use Rattle.trap_runtime.specs.cell_form.specs.Data.{BankData}
use Rattle.trap_runtime.specs.cell_form.specs.Views.{bank_of}
use Rattle.reg_ports.specs.Refusals.{AreFit}
use Rattle.ten_form.specs.sub_nodes.specs.Code.{table_of}
use Rattle.ten_form.specs.sub_nodes.specs.Cycles.{Stage, rises}
use Rattle.ten_core.specs.declared.engine.Engine.{Engine}
use Rattle.ten_core.specs.declared.origin.Origin.{Origin}
use Rattle.ten_core.specs.Runs.{IsAt}
use Rattle.ten_core.specs.Tenants.{origin_of, tenant_of, IsImage}
use Rattle.ten_core.specs.Holding.{CanBeHeld}
use Rattle.ten_core.specs.Ports.{ports_of}
use Rattle.ten_plan.specs.declared.held.Held.{Held}

abbrev pub flat_in : Origin → Flat
flat_in x = flat_of x.image.design

-- ---- what can begin

-- what is held fits a design and its files
pub record IsStart (d : Flat) (files : List File) (h : Held) : Type 0 where
  pub words : AreFit (ports_of d.rows) h.words
  pub table : IsTable files h.files
  pub tick : h.tick ≤ 1000000000

abbrev pub StartFits : Flat → List File → Option Held → Type 0
StartFits d files None = ⊤
StartFits d files (Some h) = IsStart d files h

-- the image is one of a checked design without loops, and what the run is resumed from fits it
pub record CanBegin (x : Origin) : Type 0 where
  pub unrolled : IsUnrolled (flat_in x)
  pub checked : IsChecked (flat_in x)
  pub ordered : IsOrder (flat_in x) x.image.order.items
  pub image : IsImage (flat_in x) x.image.order.items x.image
  pub held : CanBeHeld (flat_in x)
  pub start : StartFits (flat_in x) x.files x.start

-- the engine, which has this origin, is with its bank at the first boundary of the run of its design's table, where the clock rises next:
-- at tick 0 behind time zero, or at the tick of what it is resumed from
pub record Begins (x : Origin) (e : Engine) (b : BankData) : Type 0 where
  pub acts : ℕ
  pub stage : Stage
  pub origin : arc_value e.origin ≡ x
  pub at : IsAt (origin_of x) x.image.order.items (tenant_of e b) acts stage
  pub rises : rises (slice_get (table_of (flat_in x)).nodes stage.node) ≡ true
  pub alive : stage.state.finished ≡ false
  pub ticks : stage.state.ticks ≡ first_tick (origin_of x).resume
