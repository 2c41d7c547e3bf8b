-- What is said of one tenant (own).
use Rattle.std.specs.Prelude.{◌≡◌, ℕ, List, [], ◌∷◌, Option, Some, None, ⊤}
use Rattle.ten_files.specs.vl_design.specs.declared.design.End.{End}
use Rattle.ten_files.specs.vl_design.specs.Queue.{Queue}
use Rattle.host_files.specs.host_text.specs.declared.script.Script.{Script}
use Rattle.fab_model.specs.ten_parcel.specs.Parcels.{ticks_of}
use Rattle.fab_model.specs.declared.transit.Transit.{Transit}
use Rattle.host_files.specs.host_form.specs.Reports.{block_of, status_of}
use Rattle.host_files.specs.host_form.specs.Runs.{Refused, Ran, Run}
use Rattle.host_files.specs.host_form.specs.declared.refusal.Refusal.{Refusal}
use Rattle.host_report.specs.Ends.{EndsSo, HasRun}
use Rattle.host_files.specs.declared.kept.Kept.{Kept}
use Rattle.host_report.specs.declared.ending.Ending.{Ending}
use Rattle.host_report.specs.declared.lines.Said.{Said}
use Rattle.host_report.specs.Telling.{IsKeptBy, IsTellable}

-- how a tenant has ended
pub record IsEndingOf (e : Transit) (x : Ending) : Type 0 where
  pub reason : End
  pub last : Queue
  pub ends : EndsSo e.parcel reason last
  pub status : x.status ≡ status_of reason
  pub ticks : x.ticks ≡ ticks_of e.parcel
  pub cycles : x.cycles ≡ last.state.count
  pub printed : x.printed.items ≡ last.state.printed
  pub stays : x.stays.items ≡ e.stays.items
  pub kept : IsKeptBy e x.kept

-- what is said of a tenant of this name that ran
pub record IsSaidOf (s : Script) (name : List ℕ) (e : Transit) (x : Said) : Type 0 where
  pub run : Run
  pub is : HasRun e run
  pub block : x.block ≡ block_of s name (Ran run)
  pub kept : Kept
  pub keeps : x.kept ≡ Some kept
  pub by : IsKeptBy e kept

-- what is said of one that is refused
pub record IsSaidRefused (s : Script) (name : List ℕ) (r : Refusal) (x : Said) : Type 0 where
  pub block : x.block ≡ block_of s name (Refused r.place r.kind)
  pub kept : x.kept ≡ None

-- a tenant that isn't refused is the next that has ended
abbrev pub IsNextTellable : Option Refusal → List Transit → Type 0
IsNextTellable (Some r) es = ⊤
IsNextTellable None [] = ⊥
IsNextTellable None (e ∷ es) = IsTellable e

-- one that isn't is taken from the front of those that have ended
pub record IsTaken (s : Script) (name : List ℕ) (before after : List Transit) (x : Said) : Type 0 where
  pub next : Transit
  pub first : before ≡ next ∷ after
  pub said : IsSaidOf s name next x

-- what is said of the next tenant
abbrev pub IsSaid : Script → List ℕ → Option Refusal → List Transit → List Transit → Said → Type 0
IsSaid s name (Some r) before after x = (after ≡ before) × IsSaidRefused s name r x
IsSaid s name None before after x = IsTaken s name before after x
