-- The snapshots that a run keeps, to be written (own).
use Rattle.std.specs.Prelude.{◌≡◌, true, List, map, Option, Some, None, ⊤}
use Rattle.std.specs.Arc.{arc_value}
use Rattle.std.specs.List.{AllByRecursion}
use Rattle.ten_core.specs.vl_design.specs.Snapshots as run
use Rattle.ten_core.specs.vl_design.specs.Trees.{flat_of}
use Rattle.ten_core.specs.snap_form.specs.Spelling.{IsSnapshot}
use Rattle.ten_core.specs.Holding.{CanBeHeld}
use Rattle.ten_core.specs.ten_plan.specs.Held.{saved_of}
use Rattle.ten_core.specs.ten_plan.specs.Written.{written}
use Rattle.elab_laws.specs.Names.{is_named}
use Rattle.host_files.specs.declared.kept.Kept.{Kept}

-- the snapshots
abbrev pub saved_in : Kept → List run.Saved
saved_in k = map (saved_of (flat_of (arc_value k.origin).image.design).rows) k.saved.items

-- it has such a name, and can be written
pub record CanBeWritten (s : run.Saved) : Type 0 where
  pub name : is_named s.name ≡ true
  pub snapshot : IsSnapshot (written s.snapshot)

-- so can each, and their design has what is held of a run
pub record IsKeptOf (k : Kept) : Type 0 where
  pub design : CanBeHeld (flat_of (arc_value k.origin).image.design)
  pub each : AllByRecursion CanBeWritten (saved_in k)

abbrev pub CanBeKept : Option Kept → Type 0
CanBeKept None = ⊤
CanBeKept (Some kept) = IsKeptOf kept
