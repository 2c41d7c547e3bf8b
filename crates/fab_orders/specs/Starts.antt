-- What a run begins with (own).
use Rattle.std.specs.Prelude.{◌≡◌, ℕ, ◌<◌, ◌≤◌, true, false, List, [], map, length, slice_get, slice_index_or, Some, None}
use Rattle.fab_desk.specs.fab_bay.specs.ten_core.specs.declared.origin.Origin.{Origin}
use Rattle.fab_desk.specs.fab_bay.specs.ten_parcel.specs.declared.parcel.Parcel.{Parcel}
use Rattle.fab_desk.specs.fab_bay.specs.ten_parcel.specs.Parcels.{cost_of, free_of, is_moved, is_stopped, number_of, origin_in, run_of, IsParcel}
use Rattle.fab_desk.specs.fab_bay.specs.ten_plan.specs.Plans.{move_at}
use Rattle.fab_desk.specs.fab_bay.specs.fab_model.specs.Fabrics.{within}
use Rattle.fab_desk.specs.fab_bay.specs.fab_model.specs.Origins.{Origins}
use Rattle.fab_desk.specs.fab_bay.specs.declared.noted.Label.{Label}
use Rattle.fab_orders.specs.declared.outcomes.Start.{Start}

-- what the tenants start from, in the order of their numbers
abbrev pub origins_of : List Start → List Origin
origins_of starts = map (λ s. origin_in s.transit.parcel) starts

-- a tenant starts from what it started from when it was loaded
abbrev pub IsOwn : List Start → Parcel → Type 0
IsOwn starts p = slice_get (origins_of starts) (number_of p) ≡ Some (origin_in p)

-- a label names them
abbrev pub NamesOrigins : List Start → Origins → Type 0
NamesOrigins starts None = ⊥
NamesOrigins starts (Some all) = all.value.items ≡ origins_of starts

-- the label of fabric i: all tenants may come there, only the first seat puts them in line, and what each starts from is named
pub record IsLabel (starts : List Start) (i : ℕ) (l : Label) : Type 0 where
  pub fabric : l.fabric ≡ i
  pub tenants : length starts ≤ l.tenants
  pub some : 1 ≤ l.tenants
  pub any_puts : l.any_puts ≡ false
  pub origins : NamesOrigins starts l.origins

abbrev pub AreLabels : List Start → List Label → Type 0
AreLabels starts labels = (i : ℕ) (d : Label) → i < length labels → IsLabel starts i (slice_index_or labels i d)

-- there is a fabric g, which is large enough for a tenant
abbrev pub HasPlaceFor : List Label → ℕ → Parcel → Type 0
HasPlaceFor labels g p = (g < length labels) × ((d : Label) → within (cost_of p) (slice_index_or labels g d).capacity ≡ true)

-- tenant i as it is loaded: nothing was made, moved or stopped besides, it has no stays, and there is a place for it where it begins and wherever its plan moves it
pub record IsStart (labels : List Label) (i : ℕ) (s : Start) : Type 0 where
  pub number : number_of s.transit.parcel ≡ i
  pub parcel : IsParcel s.transit.parcel
  pub free : free_of s.transit.parcel ≡ []
  pub stopped : is_stopped s.transit.parcel ≡ false
  pub moved : is_moved s.transit.parcel ≡ false
  pub stays : s.transit.stays.items ≡ []
  pub place : HasPlaceFor labels s.fabric s.transit.parcel
  pub moves : (k g : ℕ) → move_at k (run_of s.transit.parcel).plan.errands ≡ Some g → HasPlaceFor labels g s.transit.parcel

abbrev pub AreStarts : List Label → List Start → Type 0
AreStarts labels starts = (i : ℕ) (d : Start) → i < length starts → IsStart labels i (slice_index_or starts i d)
