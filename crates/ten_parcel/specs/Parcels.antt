-- Tenants on their way, and at rest (own).
use Rattle.std.specs.Prelude.{◌≡◌, ℕ, false, List, [], Bool, ⊤, if◌then◌else◌, Option, Some, None}
use Rattle.std.specs.Arc.{arc_value}
use Rattle.std.specs.List.{AllByRecursion}
use Rattle.vl_eval.specs.vl_design.specs.declared.capacity.Cost.{Cost}
use Rattle.vl_eval.specs.vl_design.specs.declared.design.End.{End}
use Rattle.vl_eval.specs.vl_design.specs.declared.design.End.TheVariants.{Stopped}
use Rattle.vl_eval.specs.vl_design.specs.Costs.{saturated_cost}
use Rattle.vl_eval.specs.vl_design.specs.Alone as alone
use Rattle.vl_eval.specs.vl_design.specs.Cost.{cost}
use Rattle.vl_eval.specs.vl_design.specs.Queue.{Queue}
use Rattle.vl_eval.specs.vl_design.specs.Trees.{flat_of}
use Rattle.ten_core.specs.cell_form.specs.Views.{bank_of}
use Rattle.sub_nodes.specs.Cycles.{Stage}
use Rattle.ten_core.specs.declared.origin.Origin.{Origin}
use Rattle.ten_core.specs.Tenants.{origin_of}
use Rattle.ten_parcel.specs.Loads.{IsOverAtOnce}
use Rattle.ten_core.specs.snap_form.specs.Spelling.{IsSnapshot}
use Rattle.ten_core.specs.ten_plan.specs.Held.{snapshot_of}
use Rattle.ten_core.specs.ten_plan.specs.Written.{written}
use Rattle.ten_shell.specs.Shells as shell
use Rattle.ten_shell.specs.Shells.{CanRunOn, IsUnchanged, Rests, StandsFor}
use Rattle.ten_parcel.specs.declared.parcel.Over.{Over}
use Rattle.ten_parcel.specs.declared.parcel.Parcel.{Parcel}
use Rattle.ten_parcel.specs.declared.parcel.Parcel.TheVariants as parcel
use Rattle.ten_parcel.specs.declared.parcel.Remains.{Remains}
use Rattle.ten_parcel.specs.declared.tenant.Tenant.{Tenant}

-- ---- tenants

-- the tenant stands for its run after c acts, in this stage
abbrev pub IsOn : Tenant → ℕ → Stage → Type 0
IsOn t c i = StandsFor t.shell (bank_of t.bank) c i

-- a tenant that rests
pub record IsAtRest (t : Tenant) : Type 0 where
  pub acts : ℕ
  pub stage : Stage
  pub on : IsOn t acts stage
  pub rests : Rests t.shell stage

-- ---- parcels

-- a run that has finished in time zero
pub record IsOver (x : Over) : Type 0 where
  pub can : CanRunOn (arc_value x.origin)
  pub over : IsOverAtOnce (arc_value x.origin) (arc_value x.origin) x.early

abbrev pub IsParcel : Parcel → Type 0
IsParcel (parcel.Rests t) = IsAtRest t
IsParcel (parcel.Over x) = IsOver x

-- nothing of it has changed
abbrev pub IsSameParcel : Parcel → Parcel → Type 0
IsSameParcel (parcel.Rests t) (parcel.Rests u) = IsUnchanged t.shell u.shell (bank_of t.bank) (bank_of u.bank)
IsSameParcel (parcel.Over x) (parcel.Over y) = x ≡ y
IsSameParcel p q = ⊥

-- it is a tenant, which can go on its way
abbrev pub IsTenant : Parcel → Type 0
IsTenant (parcel.Rests t) = ⊤
IsTenant (parcel.Over x) = ⊥

abbrev pub number_of : Parcel → ℕ
number_of (parcel.Rests t) = t.shell.number
number_of (parcel.Over x) = x.number

abbrev pub origin_in : Parcel → Origin
origin_in (parcel.Rests t) = arc_value t.shell.engine.origin
origin_in (parcel.Over x) = arc_value x.origin

-- the run alone that its run is
abbrev pub run_of : Parcel → alone.Origin
run_of p = origin_of (origin_in p)

-- the ticks that it has begun
abbrev pub ticks_of : Parcel → ℕ
ticks_of (parcel.Rests t) = t.shell.engine.ticks
ticks_of (parcel.Over x) = 0

-- the snapshots that were made besides, and whether it was stopped besides
abbrev pub free_of : Parcel → List alone.FreeSave
free_of (parcel.Rests t) = shell.free_in t.shell
free_of (parcel.Over x) = []

-- whether the move that stands where it rests is done
abbrev pub is_moved : Parcel → Bool
is_moved (parcel.Rests t) = t.shell.moved
is_moved (parcel.Over x) = false

-- what it takes of a fabric, in numbers of 64 bits
abbrev pub cost_of : Parcel → Cost
cost_of p = saturated_cost (cost (run_of p).flat)

abbrev pub is_stopped : Parcel → Bool
is_stopped (parcel.Rests t) = t.shell.stopped
is_stopped (parcel.Over x) = false

-- why its run has ended at this boundary, if it has: it was stopped besides, or its run alone ends there
abbrev pub end_at : Parcel → Queue → Option End
end_at p q = if is_stopped p then Some Stopped else alone.reason_at (run_of p).plan (ticks_of p) q

-- it hasn't ended where it rests
abbrev pub HasNotEnded : Parcel → Type 0
HasNotEnded p = (q : Queue) → alone.Boundary (run_of p) (ticks_of p) q → end_at p q ≡ None

-- the parcel has just been loaded: with this number, from this origin; nothing was made or stopped besides
pub record IsLoaded (n : ℕ) (x : Origin) (p : Parcel) : Type 0 where
  pub parcel : IsParcel p
  pub number : number_of p ≡ n
  pub origin : origin_in p ≡ x
  pub ticks : ticks_of p ≡ alone.first_tick (run_of p).resume
  pub free : free_of p ≡ []
  pub moved : is_moved p ≡ false
  pub stopped : is_stopped p ≡ false

-- ---- what a tenant leaves behind

-- each snapshot that it keeps is one of its design, as it is written
abbrev pub AreWritable : Remains → Type 0
AreWritable r = AllByRecursion (λ s. IsSnapshot (written (snapshot_of (flat_of (arc_value r.origin).image.design).rows s.held))) r.saved.items
