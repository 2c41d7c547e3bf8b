-- What parcels at points tell.
use Rattle.std.proofs.Common.{◌≡◌, Bool, true, false, Option, Some, None, refl, ap}
use Rattle.std.specs.Prelude.{◌&&◌, ◌||◌, ◌-◌, not, nat_le, slice_get, if◌then◌else◌}
use Rattle.vl_design.specs.declared.design.End.{End}
use Rattle.vl_design.specs.declared.design.End.TheVariants as end
use Rattle.vl_design.specs.Alone.{stop_at}
use Rattle.ten_core.specs.sub_nodes.specs.Code.{table_of}
use Rattle.ten_core.specs.sub_nodes.specs.Cycles.{rises}
use Rattle.ten_core.specs.Tenants.{origin_of}
use Rattle.fab_core.specs.ten_parcel.specs.declared.parcel.Parcel.{Parcel}
use Rattle.fab_core.specs.ten_parcel.specs.declared.parcel.Parcel.TheVariants as parcel
use Rattle.fab_core.specs.ten_parcel.specs.Parcels.{free_of, is_moved, number_of, origin_in, run_of, ticks_of}
use Rattle.fab_core.specs.ten_shell.specs.Shells.{is_left}
use Rattle.fab_core.specs.fab_model.specs.Points.{ended, is_there, rests, run_in, tick_of, Point}
use Rattle.fab_core.specs.Standing.{IsPointOf}
use Rattle.fab_bay.specs.Berths.{begun}
use Rattle.vl_design.specs.vl_base.proofs.Booleans.{or_there_too as there_by}

-- all that a parcel tells of the point where it stands
pub record Tells (q : Parcel) (p : Point) : Type 0 where
  pub number : number_of q ≡ p.number
  pub origin : origin_in q ≡ p.origin
  pub ticks : ticks_of q ≡ begun p
  pub free : free_of q ≡ p.free
  pub moved : is_moved q ≡ p.moved
  pub rests : rests p ≡ true
  pub tick : tick_of p ≡ begun p

-- the last boundary of what rests is there
pub tick_there : (p : Point) → rests p ≡ true → tick_of p ≡ begun p
tick_there p e =
    let i = p.stage in
    let up = rises (slice_get (table_of (run_in p).flat).nodes i.node) in
    ap (λ x. if x then i.state.ticks else i.state.ticks - 1) (there_by i.state.finished up (not (is_left p.left)) e)

pub tells : (q : Parcel) (p : Point) → IsPointOf q p → Tells q p
tells (parcel.Rests t) p h = record {
  number = h.point.number;
  origin = h.point.origin;
  ticks = h.point.stands.at.ticks;
  free = h.point.free;
  moved = h.point.moved;
  rests = h.rests;
  tick = tick_there p h.rests;
}
tells (parcel.Over x) p h = absurd h

pub run_is : (q : Parcel) (p : Point) → Tells q p → run_of q ≡ run_in p
run_is q p h = ap origin_of h.origin

-- ---- what has not ended

lives_by : (st : Bool) (o : Option End) → (if st then Some end.Stopped else o) ≡ None → st ≡ false
lives_by true o e = let z : ⊥ = cc in absurd z
lives_by false o e = refl

pub lives_if : (p : Point) → ended p ≡ None → p.stopped ≡ false
lives_if p e = lives_by p.stopped _ e

going_by : (st f b s : Bool) → (if st then Some end.Stopped else if f then Some end.Finished else if b then Some end.Budget else if s then Some end.Stopped else None) ≡ None → f ≡ false
going_by true f b s e = let z : ⊥ = cc in absurd z
going_by false true b s e = let z : ⊥ = cc in absurd z
going_by false false b s e = refl

pub going_if : (p : Point) → ended p ≡ None → p.stage.state.finished ≡ false
going_if p e = going_by p.stopped p.stage.state.finished (nat_le (run_in p).plan.budget p.stage.state.ticks) (stop_at p.stage.state.ticks (run_in p).plan.errands) e

at_by : (f u l : Bool) → (f || (u && l)) ≡ true → f ≡ false → (not f && u) ≡ true
at_by true u l e g = let z : ⊥ = cc in absurd z
at_by false true l e g = refl
at_by false false l e g = let z : ⊥ = cc in absurd z

-- what rests and hasn't finished is at a boundary
pub there_if : (p : Point) → rests p ≡ true → p.stage.state.finished ≡ false → is_there p ≡ true
there_if p e g = at_by p.stage.state.finished (rises (slice_get (table_of (run_in p).flat).nodes p.stage.node)) (not (is_left p.left)) e g
