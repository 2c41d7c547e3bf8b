-- How the runs of a script's tenants have come to their ends (own).
use Rattle.std.specs.Prelude.{◌≡◌, ℕ, ◌≤◌, Bool, true, false, List, [], ◌∷◌, map, Option, Some, None, ⊤}
use Rattle.ten_files.specs.vl_design.specs.declared.design.End.{End}
use Rattle.ten_files.specs.vl_design.specs.declared.design.End.TheVariants.{Stopped}
use Rattle.ten_files.specs.vl_design.specs.Alone.{reason_at, Boundary, Ends}
use Rattle.ten_files.specs.vl_design.specs.Queue.{Queue}
use Rattle.fab_model.specs.ten_parcel.specs.declared.parcel.Parcel.{Parcel}
use Rattle.fab_model.specs.ten_parcel.specs.Parcels.{is_stopped, run_of, ticks_of}
use Rattle.fab_model.specs.declared.transit.Transit.{Transit}
use Rattle.host_files.specs.host_form.specs.Histories.{times, AreOrdered, Visit}
use Rattle.host_files.specs.host_form.specs.Runs.{Outcome, Ran, Refused, Run}
use Rattle.host_files.specs.host_form.specs.declared.refusal.Refusal.{Refusal}
use Rattle.host_report.specs.Told.{visit_of}

abbrev pub is_refused : Option Refusal → Bool
is_refused None = false
is_refused (Some r) = true

-- its run alone ends where it rests, for this reason, in this state; or it was stopped there, up to where its run has no reason to end
pub data EndsSo (p : Parcel) (reason : End) (last : Queue) : Type 0 where
  alone : is_stopped p ≡ false → Ends (run_of p) (ticks_of p) reason last → EndsSo p reason last
  stopped : is_stopped p ≡ true → reason ≡ Stopped → Boundary (run_of p) (ticks_of p) last →
      ((j : ℕ) (q : Queue) → j ≤ ticks_of p → Boundary (run_of p) j q → reason_at (run_of p).plan j q ≡ None) → EndsSo p reason last

-- a tenant's run has come to its end: it ends so, and its stays are these, in order
pub record HasRun (e : Transit) (r : Run) : Type 0 where
  pub tick : r.tick ≡ ticks_of e.parcel
  pub ends : EndsSo e.parcel r.reason r.last
  pub ordered : AreOrdered r.visits
  pub each : (v : Visit) → times v r.visits ≡ times v (map visit_of e.stays.items)

-- so it is said of it
abbrev pub IsRunOf : Transit → Outcome → Type 0
IsRunOf e (Refused place kind) = ⊥
IsRunOf e (Ran r) = HasRun e r

-- each tenant is refused so, or is the next that has run
abbrev pub AreEnds : List (Option Refusal) → List Transit → List Outcome → Type 0
AreEnds [] [] [] = ⊤
AreEnds (Some r ∷ refusals) es (x ∷ xs) = (x ≡ Refused r.place r.kind) × AreEnds refusals es xs
AreEnds (None ∷ refusals) (e ∷ es) (x ∷ xs) = IsRunOf e x × AreEnds refusals es xs
AreEnds _ _ _ = ⊥
