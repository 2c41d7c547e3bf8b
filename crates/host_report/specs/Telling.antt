-- What a report says of the tenants of a script that have ended (own).
use Rattle.std.specs.Prelude.{◌≡◌, true, List, [], ◌∷◌, map, Option, Some, None, ⊤}
use Rattle.std.specs.Arc.{arc_value}
use Rattle.std.specs.List.{AllByRecursion}
use Rattle.ten_files.specs.vl_design.specs.declared.design.End.{End}
use Rattle.ten_files.specs.vl_design.specs.Alone.{Keeps}
use Rattle.ten_files.specs.vl_design.specs.Queue.{Queue}
use Rattle.ten_files.specs.vl_design.specs.Snapshots as run
use Rattle.host_files.specs.elab_laws.specs.Names.{is_named}
use Rattle.host_files.specs.host_text.specs.declared.script.Script.{Script}
use Rattle.fab_model.specs.ten_parcel.specs.Parcels.{free_of, origin_in, run_of, ticks_of, IsParcel}
use Rattle.fab_model.specs.ten_plan.specs.Written.{HasRows}
use Rattle.fab_model.specs.declared.transit.Transit.{Transit}
use Rattle.host_files.specs.host_form.specs.Origins.{Tenant}
use Rattle.host_files.specs.host_form.specs.Reports.{blocks_of}
use Rattle.host_files.specs.host_form.specs.Runs.{Outcome}
use Rattle.host_files.specs.host_form.specs.declared.refusal.Refusal.{Refusal}
use Rattle.host_report.specs.Ends.{AreEnds, EndsSo}
use Rattle.host_files.specs.declared.kept.Kept.{Kept}
use Rattle.host_files.specs.Kept.{saved_in, IsKeptOf}
use Rattle.host_report.specs.declared.tell.Told.{Told}

-- a tenant that has ended, and whose snapshots have names fit for files
pub record IsTellable (e : Transit) : Type 0 where
  pub parcel : IsParcel e.parcel
  pub end : End
  pub last : Queue
  pub ends : EndsSo e.parcel end last
  pub written : HasRows (run_of e.parcel).flat.rows
  pub named : (saved : List run.Saved) → Keeps (run_of e.parcel) (free_of e.parcel) (ticks_of e.parcel) saved → AllByRecursion (λ s. is_named s.name ≡ true) saved

-- as many have ended as aren't refused
abbrev pub AreTellable : List (Option Refusal) → List Transit → Type 0
AreTellable [] [] = ⊤
AreTellable (Some r ∷ refusals) es = AreTellable refusals es
AreTellable (None ∷ refusals) (e ∷ es) = IsTellable e × AreTellable refusals es
AreTellable _ _ = ⊥

-- ---- what is told

-- the snapshots of a tenant that ran are those that its run keeps, and can be written
pub record IsKeptBy (e : Transit) (k : Kept) : Type 0 where
  pub origin : arc_value k.origin ≡ origin_in e.parcel
  pub keeps : Keeps (run_of e.parcel) (free_of e.parcel) (ticks_of e.parcel) (saved_in k)
  pub can : IsKeptOf k

-- each tenant that isn't refused is the next that ran
abbrev pub AreKept : List (Option Refusal) → List Transit → List (Option Kept) → Type 0
AreKept [] [] [] = ⊤
AreKept (Some r ∷ refusals) es (None ∷ kept) = AreKept refusals es kept
AreKept (None ∷ refusals) (e ∷ es) (Some k ∷ kept) = IsKeptBy e k × AreKept refusals es kept
AreKept _ _ _ = ⊥

-- what is told of the tenants of a script
pub record IsToldOf (s : Script) (refusals : List (Option Refusal)) (ended : List Transit) (told : Told) : Type 0 where
  pub outcomes : List Outcome
  pub ends : AreEnds refusals ended outcomes
  pub blocks : (tenants : List Tenant) → map (λ t. t.line) tenants ≡ s.tenants → told.blocks.items ≡ blocks_of s tenants outcomes
  pub kept : AreKept refusals ended told.kept.items
