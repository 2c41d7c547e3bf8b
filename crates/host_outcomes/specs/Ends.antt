-- What a report says of the tenants of a script (own).
use Rattle.std.specs.Prelude.{◌≡◌, ℕ, ◌+◌, ◌<◌, length, Bool, true, false, List, [], ◌∷◌, Option, Some, None, ⊤}
use Rattle.ten_files.specs.vl_design.specs.Alone.{first_tick, FreeSave, Keeps}
use Rattle.ten_files.specs.vl_design.specs.Cost.{cost}
use Rattle.ten_files.specs.vl_design.specs.Snapshots.{Saved}
use Rattle.fab_orders.specs.ten_parcel.specs.Parcels.{free_of, run_of, ticks_of}
use Rattle.host_report.specs.fab_model.specs.declared.transit.Transit.{Transit}
use Rattle.fab_orders.specs.declared.outcomes.Answer.{Answer}
use Rattle.fab_orders.specs.Orders as run
use Rattle.fab_orders.specs.Orders.{moved_at}
use Rattle.host_judge.specs.host_form.specs.Orders.{moves_of, puts_at, saves_of, stop_of, Answered}
use Rattle.host_judge.specs.host_form.specs.Runs.{Outcome, Ran, Refused, Run}
use Rattle.host_judge.specs.host_form.specs.Saves.{IsReordered}
use Rattle.host_judge.specs.host_form.specs.declared.refusal.Refusal.{Refusal}
use Rattle.host_outcomes.specs.Reported.{number_in, numbers_from}

abbrev pub is_refusal : Outcome → Bool
is_refusal (Refused place kind) = true
is_refusal (Ran r) = false

-- ---- what a report says of them

-- what the answers of a report say of the tenant of number n is what those of a run say of its tenant k
pub record Tells (answers : List Answered) (n k : ℕ) (theirs : List Answer) : Type 0 where
  pub stop : stop_of n answers ≡ run.stop_of k theirs
  pub saves : saves_of n answers ≡ run.saves_of k theirs
  pub moves : (g j : ℕ) → puts_at g j (moves_of n answers) ≡ moved_at k j g theirs

-- so it is of each tenant that isn't refused
abbrev pub DidAs : List Bool → List Answered → List Answer → Type 0
DidAs refused answers theirs = (k n : ℕ) → k < length (numbers_from 0 refused) → number_in refused k ≡ n → Tells answers n k theirs

-- a run ends as another: at the same tick, for the same reason, with the same bytes printed, acts counted and stays
pub record EndsAs (r u : Run) : Type 0 where
  pub tick : u.tick ≡ r.tick
  pub reason : u.reason ≡ r.reason
  pub printed : u.last.state.printed ≡ r.last.state.printed
  pub count : u.last.state.count ≡ r.last.state.count
  pub visits : u.visits ≡ r.visits

-- the same is said of a tenant: the same refusal, or that it ends as the run that was run, whichever design it is the run of
abbrev pub IsSaidOf : Outcome → Outcome → Type 0
IsSaidOf (Refused place kind) y = y ≡ Refused place kind
IsSaidOf (Ran r) (Refused place kind) = ⊥
IsSaidOf (Ran r) (Ran u) = EndsAs r u

-- the same is said of each tenant
abbrev pub AreSaid : List Outcome → List Outcome → Type 0
AreSaid [] [] = ⊤
AreSaid (x ∷ xs) (y ∷ ys) = IsSaidOf x y × AreSaid xs ys
AreSaid _ _ = ⊥

-- ---- whose run is told

-- the run that a report tells of the tenant of number n is this one's: it ends at the same tick, costs the same, has stays just where this one
-- has some, and keeps the snapshots that this one has kept
pub record IsTold (answers : List Answered) (n : ℕ) (e : Transit) (r : Run) : Type 0 where
  pub tick : r.tick ≡ ticks_of e.parcel
  pub cost : cost r.origin.flat ≡ cost (run_of e.parcel).flat
  pub stays : e.stays.items ≡ [] → r.visits ≡ []
  pub visits : r.visits ≡ [] → e.stays.items ≡ []
  pub first : first_tick r.origin.resume ≡ first_tick (run_of e.parcel).resume
  pub keeps : (saved : List Saved) → Keeps (run_of e.parcel) (free_of e.parcel) (ticks_of e.parcel) saved →
      (free : List FreeSave) × IsReordered free (saves_of n answers) × Keeps r.origin free r.tick saved

-- so it is of each tenant that has run, where tenants have numbers from n on
abbrev pub AreTold : List Answered → ℕ → List (Option Refusal) → List Transit → List Outcome → Type 0
AreTold answers n [] [] [] = ⊤
AreTold answers n (Some r ∷ refusals) es (Refused place kind ∷ ys) = AreTold answers (n + 1) refusals es ys
AreTold answers n (None ∷ refusals) (e ∷ es) (Ran r ∷ ys) = IsTold answers n e r × AreTold answers (n + 1) refusals es ys
AreTold answers n _ _ _ = ⊥
