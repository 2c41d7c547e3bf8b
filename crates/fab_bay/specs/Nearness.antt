-- How many ticks tenants have begun, and how far their ticks rise (own).
use Rattle.std.specs.Prelude.{◌≡◌, ℕ, ◌+◌, ◌≤◌, Bool, List, [], ◌++◌}
use Rattle.std.specs.List.{AllByRecursion}
use Rattle.fab_core.specs.Alone.{tenants_of}
use Rattle.fab_core.specs.ten_parcel.specs.Parcels.{number_of, ticks_of}
use Rattle.fab_core.specs.fab_model.specs.declared.note.Note.{Note}
use Rattle.fab_core.specs.fab_model.specs.declared.transit.Transit.{Transit}
use Rattle.fab_core.specs.fab_model.specs.Deeds.{Deed}
use Rattle.fab_core.specs.fab_model.specs.Histories.{place_of, replay, Inside}
use Rattle.fab_bay.specs.declared.noted.NotedCore.{NotedCore}

-- ---- by histories

-- the tenant is inside by these notes, at this tick
abbrev pub IsAt : List Note → (tenant tick : ℕ) → Type 0
IsAt notes t k = (since : ℕ) × (came : Bool) × (deed : Deed) × (place_of t (replay [] notes) ≡ Inside since k came deed)

-- from the history found to the history left nobody's tick rises by more than one: of nobody who is inside still, and of nobody who came out
pub record AreNear (found left : List Note) (gone : List Transit) : Type 0 where
  pub inside : (t k m : ℕ) → IsAt found t k → IsAt left t m → m ≤ k + 1
  pub out : AllByRecursion (λ o. (k : ℕ) → IsAt found (number_of o.parcel) k → ticks_of o.parcel ≤ k + 1) gone

-- ---- by cores

-- no tenant, be it a resident or in line, has begun more ticks than these for its number
abbrev pub IsWithin : (most : ℕ → ℕ) → NotedCore → Type 0
IsWithin most x = AllByRecursion (λ t. t.shell.engine.ticks ≤ most t.shell.number) (tenants_of x.core.residents.items ++ x.core.line.items)

-- no tenant begins a tick: what bounds the ticks begun before bounds them still
abbrev pub BeginsNone : (x y : NotedCore) → Type 0
BeginsNone x y = (most : ℕ → ℕ) → IsWithin most x → IsWithin most y

-- nor did one that comes out
abbrev pub CameWithin : NotedCore → Transit → Type 0
CameWithin x out = (most : ℕ → ℕ) → IsWithin most x → ticks_of out.parcel ≤ most (number_of out.parcel)
