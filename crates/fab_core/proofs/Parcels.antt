-- What points tell of tenants at rest.
use Rattle.std.proofs.Common.{◌≡◌, ℕ, Bool, true, false, Some, None, List, [], ◌∷◌, refl, sym, ap, ◌∙◌, subst}
use Rattle.std.specs.Prelude.{◌&&◌, ◌||◌, ◌-◌, not, nat_le, slice_get, if◌then◌else◌}
use Rattle.std.specs.Arc.{arc_value}
use Rattle.vl_design.specs.declared.design.End.TheVariants.{Finished, Budget, Stopped}
use Rattle.vl_design.specs.Alone as alone
use Rattle.vl_design.specs.Alone.{Boundary, reason_at, stop_at}
use Rattle.vl_design.specs.Queue.{Queue}
use Rattle.vl_design.specs.State.{State}
use Rattle.ten_core.specs.sub_nodes.specs.Code.{table_of}
use Rattle.ten_core.specs.sub_nodes.specs.Cycles.{Stage, rises}
use Rattle.ten_core.specs.Tenants.{origin_of}
use Rattle.ten_core.specs.Running.{is_at_rest, IsRunning}
use Rattle.ten_shell.specs.declared.shell.Shell.{Shell}
use Rattle.ten_shell.specs.Leaving.{end_in, resting}
use Rattle.ten_shell.specs.Shells as shells
use Rattle.ten_shell.specs.Shells.{flat_in, free_in, is_left, left_in}
use Rattle.fab_model.specs.ten_parcel.specs.declared.parcel.Parcel.{Parcel}
use Rattle.fab_model.specs.ten_parcel.specs.declared.parcel.Parcel.TheVariants as parcel
use Rattle.fab_model.specs.ten_parcel.specs.declared.tenant.Tenant.{Tenant}
use Rattle.fab_model.specs.ten_parcel.specs.Parcels as parcels
use Rattle.fab_model.specs.ten_parcel.specs.Parcels.{free_of, is_moved, is_stopped, number_of, origin_in, run_of, ticks_of, IsParcel, IsTenant}
use Rattle.fab_model.specs.Points.{ended, is_there, rests, run_in, tick_of, Point}
use Rattle.fab_core.specs.Standing.{IsAtRest, IsPointOf}
use Rattle.fab_core.proofs.Arriving.{parcel_is, parcel_tenant}
use Rattle.fab_core.proofs.Points.{run-by}
use Rattle.vl_design.specs.vl_base.proofs.Booleans.{or_there_too as there_by}

-- ---- a point of a tenant at rest

rests_by : (f u : Bool) (l : List (List ℕ)) → (f || u) ≡ true → (f ≡ false → l ≡ []) → (f || (u && not (is_left l))) ≡ true
rests_by true u l e h = refl
rests_by false true l e h = ap (λ ns. not (is_left ns)) (h refl)
rests_by false false l e h = let z : ⊥ = cc in absurd z

abbrev point_at : Shell → ℕ → Stage → Point
point_at s c i = record {
  number = s.number;
  origin = arc_value s.engine.origin;
  acts = c;
  stage = i;
  left = left_in s;
  free = free_in s;
  moved = s.moved;
  stopped = s.stopped;
}

rest_point : (t : Tenant) → parcels.IsAtRest t → (p : Point) × IsAtRest t p
rest_point t h = (
  point_at t.shell h.acts h.stage,
  record {
    point = record { number = refl; origin = refl; stands = h.on; left = λ e. refl; free = refl; moved = refl; stopped = refl };
    rests = rests_by h.stage.state.finished (rises (slice_get (table_of (flat_in t.shell)).nodes h.stage.node)) (left_in t.shell) h.rests.rests h.rests.saved;
  },
)

pub has_point : (q : Parcel) → IsParcel q → IsTenant q → (p : Point) × IsPointOf q p
has_point (parcel.Rests t) h is = rest_point t h
has_point (parcel.Over x) h is = absurd is

-- ---- what it tells

pub origin_is : (q : Parcel) (p : Point) → IsPointOf q p → origin_in q ≡ p.origin
origin_is (parcel.Rests t) p h = h.point.origin
origin_is (parcel.Over x) p h = absurd h

pub ticks_is : (q : Parcel) (p : Point) → IsPointOf q p → ticks_of q ≡ p.stage.state.ticks
ticks_is (parcel.Rests t) p h = h.point.stands.at.ticks
ticks_is (parcel.Over x) p h = absurd h

pub free_is : (q : Parcel) (p : Point) → IsPointOf q p → free_of q ≡ p.free
free_is (parcel.Rests t) p h = h.point.free
free_is (parcel.Over x) p h = absurd h

pub moved_is : (q : Parcel) (p : Point) → IsPointOf q p → is_moved q ≡ p.moved
moved_is (parcel.Rests t) p h = h.point.moved
moved_is (parcel.Over x) p h = absurd h

pub stopped_is : (q : Parcel) (p : Point) → IsPointOf q p → is_stopped q ≡ p.stopped
stopped_is (parcel.Rests t) p h = h.point.stopped
stopped_is (parcel.Over x) p h = absurd h

rests_of : (q : Parcel) (p : Point) → IsPointOf q p → rests p ≡ true
rests_of (parcel.Rests t) p h = h.rests
rests_of (parcel.Over x) p h = absurd h

run_is : (q : Parcel) (p : Point) → IsPointOf q p → run_of q ≡ run_in p
run_is q p h = ap origin_of (origin_is q p h)

pub tick_is : (q : Parcel) (p : Point) → IsPointOf q p → tick_of p ≡ p.stage.state.ticks
tick_is q p h =
    let i = p.stage in
    let up = rises (slice_get (table_of (run_in p).flat).nodes i.node) in
    ap (λ x. if x then i.state.ticks else i.state.ticks - 1) (there_by i.state.finished up (not (is_left p.left)) (rests_of q p h))

-- ---- its boundary, and its end

abbrev pub BoundaryLaw : Type 0
BoundaryLaw = (o : alone.Origin) (order : List ℕ) (c : ℕ) (i : Stage) → IsRunning o order c i → is_at_rest o.flat i ≡ true →
    (q : Queue) × Boundary o i.state.ticks q × (q.state ≡ i.state)

abbrev pub OneLaw : Type 0
OneLaw = (o : alone.Origin) (k : ℕ) (a b : Queue) → Boundary o k a → Boundary o k b → a ≡ b

at_rest_by : (f u l : Bool) → (f || (u && l)) ≡ true → (f || u) ≡ true
at_rest_by true u l e = refl
at_rest_by false true l e = refl
at_rest_by false false l e = let z : ⊥ = cc in absurd z

pub boundary_is : BoundaryLaw → (q : Parcel) (p : Point) → IsPointOf q p → (b : Queue) × Boundary (run_of q) (ticks_of q) b × (b.state ≡ p.stage.state)
boundary_is law (parcel.Rests t) p h =
    let s = t.shell in
    let w = h.point.stands in
    let up = rises (slice_get (table_of (run_in p).flat).nodes p.stage.node) in
    let rest : is_at_rest (shells.run_of s).flat p.stage ≡ true =
    ap (λ (o : alone.Origin). is_at_rest o.flat p.stage) (run-by h.point) ∙ at_rest_by p.stage.state.finished up (not (is_left p.left)) h.rests in
    let b = law (shells.run_of s) w.order p.acts p.stage w.running rest in
    (b.0, subst (λ k. Boundary (shells.run_of s) k b.0) (sym w.at.ticks) b.1, b.2)
boundary_is law (parcel.Over x) p h = absurd h

pub ended_is : BoundaryLaw → OneLaw → (q : Parcel) (p : Point) (b : Queue) → IsPointOf q p → Boundary (run_of q) (ticks_of q) b →
    ended p ≡ (if is_stopped q then Some Stopped else reason_at (run_of q).plan (ticks_of q) b)
ended_is law one q p b h at =
    let x = boundary_is law q p h in
    let state : p.stage.state ≡ b.state = sym x.2 ∙ ap (λ (y : Queue). y.state) (one (run_of q) (ticks_of q) x.0 b x.1 at) in
    ap (λ y. if y then Some Stopped else reason_at (run_in p).plan p.stage.state.ticks (resting p.stage.state)) (sym (stopped_is q p h))
    ∙ ap (λ (o : alone.Origin). if is_stopped q then Some Stopped else reason_at o.plan p.stage.state.ticks (resting p.stage.state)) (sym (run_is q p h))
    ∙ ap (λ k. if is_stopped q then Some Stopped else reason_at (run_of q).plan k (resting p.stage.state)) (sym (ticks_is q p h))
    ∙ ap (λ (s : State). if is_stopped q then Some Stopped else (if s.finished then Some Finished else if nat_le (run_of q).plan.budget (ticks_of q) then Some Budget else if stop_at (ticks_of q) (run_of q).plan.errands then Some Stopped else None)) state
