-- What rows' runs start with, and what comes of them.
use Rattle.std.specs.Prelude.{ℕ, ◌≤◌, List, Option, Some, None, ⊤}
use Rattle.std.specs.Arc.{arc_value}
use Rattle.vl_design.specs.vl_base.specs.declared.files.File.{File}
use Rattle.vl_design.specs.Laws.{IsTable}
use Rattle.vl_design.specs.Syntax.{Flat}
use Rattle.vl_design.specs.Trees.{flat_of}
use Rattle.ten_core.specs.reg_ports.specs.Refusals.{AreFit}
use Rattle.ten_core.specs.Holding.{CanBeHeld}
use Rattle.ten_core.specs.Ports.{ports_of}
use Rattle.fab_model.specs.ten_parcel.specs.declared.parcel.Parcel.{Parcel}
use Rattle.fab_model.specs.ten_parcel.specs.declared.parcel.Remains.{Remains}
use Rattle.fab_model.specs.ten_parcel.specs.Parcels.{run_of, AreWritable, IsParcel}
use Rattle.elab_laws.specs.ten_plan.specs.declared.held.Held.{Held}
use Rattle.elab_laws.specs.ten_plan.specs.Written.{HasRows}
use Rattle.machine_rows.specs.declared.splits.runs.Outcome.{Outcome}
use Rattle.machine_rows.specs.declared.splits.runs.Outcome.TheVariants as o
use Rattle.machine_rows.specs.declared.splits.start.Start.{Start}
use Rattle.machine_rows.specs.declared.splits.start.Start.TheVariants as s

-- what a run is resumed from fits the design and the files
abbrev pub IsFit : Flat → List File → Option Held → Type 0
IsFit d files None = ⊤
IsFit d files (Some h) = AreFit (ports_of d.rows) h.words × IsTable files h.files

abbrev pub IsStarted : Flat → List File → Start → Type 0
IsStarted d files (s.Held held) = IsFit d files held
IsStarted d files (s.Bad kind offset) = ⊤

-- and is no later than a budget
abbrev pub IsWithin : Option Held → ℕ → Type 0
IsWithin None budget = ⊤
IsWithin (Some h) budget = h.tick ≤ budget

-- a parcel, whose snapshots can be written
pub record CanBeTold (p : Parcel) : Type 0 where
  pub parcel : IsParcel p
  pub held : CanBeHeld (run_of p).flat
  pub rows : HasRows (run_of p).flat.rows

abbrev pub IsOutcome : Outcome → Type 0
IsOutcome (o.Parcel p) = CanBeTold p.value
IsOutcome (o.Bad kind offset) = ⊤
IsOutcome o.Unfit = ⊤

-- what it leaves behind, whose snapshots can be written
pub record CanBeWritten (r : Remains) : Type 0 where
  pub held : CanBeHeld (flat_of (arc_value r.origin).image.design)
  pub saved : AreWritable r
