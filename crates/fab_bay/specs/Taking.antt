-- What taking a tenant out does (own).
use Rattle.std.specs.Prelude.{◌≡◌, ℕ, Bool, false, true, [], ◌∷◌, None}
use Rattle.fab_core.specs.ten_parcel.specs.Parcels.{is_moved, is_stopped, number_of, ticks_of}
use Rattle.fab_core.specs.fab_model.specs.Points.{ended, Point}
use Rattle.fab_core.specs.Standing.{IsPointOf}
use Rattle.fab_core.specs.fab_model.specs.declared.transit.Transit.{Transit}
use Rattle.fab_core.specs.fab_model.specs.Deeds.{Deed}
use Rattle.fab_core.specs.fab_model.specs.Histories.{is_done, place_of, replay, Inside}
use Rattle.fab_core.specs.fab_model.specs.Moves.{ends_idle}
use Rattle.fab_bay.specs.declared.leaving.Found.{Found}
use Rattle.fab_bay.specs.declared.leaving.Found.TheVariants.{Here, Absent, Short}
use Rattle.fab_bay.specs.declared.leaving.Taken.{Taken}
use Rattle.fab_bay.specs.declared.noted.NotedCore.{NotedCore}
use Rattle.fab_bay.specs.Refusals.{IsAway}
use Rattle.fab_bay.specs.Ways.{Took}

-- the move that stands where it rests is done just where the tenant was put in line there with it done
abbrev pub KeepsFlag : NotedCore → Transit → Type 0
KeepsFlag x out =
    (since now : ℕ) (c : Bool) (d : Deed) → place_of (number_of out.parcel) (replay [] x.notes.items) ≡ Inside since now c d →
    is_moved out.parcel ≡ is_done since (ticks_of out.parcel) d

-- a tenant that was taken out: it wasn't stopped; and where the move that stands there is done, its run hasn't ended, and it came by that move where it was a resident
pub record IsWithdrawn (out : Transit) : Type 0 where
  pub lives : is_stopped out.parcel ≡ false
  pub lively : is_moved out.parcel ≡ true → (p : Point) → IsPointOf out.parcel p → ended p ≡ None
  pub idle : is_moved out.parcel ≡ true → out.resident ≡ true → ends_idle out.stays.items ≡ true

-- the tenant is out; or it wasn't there, and nothing was done; or memory ended the call, and it is still there
abbrev pub IsFound : (number tenant : ℕ) (x y : NotedCore) → Taken → Found → Type 0
IsFound number tenant x y t (Here out) = (number_of out.parcel ≡ tenant) × Took number x y t.entries.items (out ∷ []) × KeepsFlag x out × IsWithdrawn out
IsFound number tenant x y t Absent = IsAway x.notes.items tenant × (y.notes.items ≡ x.notes.items) × (t.entries.items ≡ [])
IsFound number tenant x y t Short = (IsAway x.notes.items tenant → ⊥) × Took number x y t.entries.items []

abbrev pub IsTaken : (number tenant : ℕ) (x y : NotedCore) → Taken → Type 0
IsTaken number tenant x y t = (IsAway x.notes.items tenant → t.found ≡ Absent) × IsFound number tenant x y t t.found
