-- A tenant whose run alone has ended.
use Rattle.std.proofs.Common.{◌≡◌, ℕ, false, Some, None, sym, ap, ◌∙◌, subst}
use Rattle.std.specs.Prelude.{if◌then◌else◌, map, nat_le, slice_get}
use Rattle.std.specs.Arc.{arc_value}
use Rattle.ten_core.specs.vl_design.specs.declared.design.End.{End}
use Rattle.ten_core.specs.vl_design.specs.declared.design.End.TheVariants.{Finished, Budget, Stopped}
use Rattle.ten_core.specs.vl_design.specs.Alone.{Boundary, Ends, reason_at, stop_at}
use Rattle.ten_core.specs.vl_design.specs.Queue.{Queue}
use Rattle.ten_core.specs.sub_nodes.specs.Code.{table_of}
use Rattle.ten_core.specs.sub_nodes.specs.Cycles.{rises}
use Rattle.ten_core.specs.declared.origin.Origin.{Origin}
use Rattle.ten_core.specs.Tenants.{origin_of}
use Rattle.ten_core.specs.ten_plan.specs.Held.{free_of}
use Rattle.ten_core.specs.Running.{goes_on}
use Rattle.ten_parcel.specs.ten_zero.specs.Early.{state_in}
use Rattle.ten_shell.specs.Shells.{flat_in, run_of, IsSameTenant}
use Rattle.ten_parcel.specs.declared.parcel.Over.{Over}
use Rattle.ten_parcel.specs.declared.parcel.Parcel.{Parcel}
use Rattle.ten_parcel.specs.declared.parcel.Parcel.TheVariants as parcel
use Rattle.ten_parcel.specs.declared.tenant.Tenant.{Tenant}
use Rattle.ten_parcel.specs.Parcels.{IsAtRest, IsLoaded}
use Rattle.ten_parcel.proofs.Running.{reason-by}
use Rattle.ten_alone.specs.Alone.{IsRunAlone}

module _ (n : ℕ) (x : Origin) where
  -- as it was loaded
  pub loaded-as : (p q : Parcel) → p ≡ q → IsLoaded n x p → IsLoaded n x q
  loaded-as p q same l = subst (λ (y : Parcel). IsLoaded n x y) same l

  module _ (t u : Tenant) (l : IsLoaded n x (parcel.Rests t)) (same : IsSameTenant t.shell u.shell) (s : IsAtRest u) where
    pub rests-alone : goes_on (run_of u.shell).plan (flat_in u.shell) s.stage ≡ false →
        ((q : Queue) × Boundary (run_of u.shell) s.stage.state.ticks q × (q.state ≡ s.stage.state) × (q.state.count ≡ s.acts)) →
        ((q : Queue) (end : End) → Boundary (run_of u.shell) s.stage.state.ticks q → reason_at (run_of u.shell).plan s.stage.state.ticks q ≡ Some end →
        Ends (run_of u.shell) s.stage.state.ticks end q) → IsRunAlone n x (parcel.Rests u)
    rests-alone off there ends =
        let i = s.stage in
        let plan = (run_of u.shell).plan in
        let reason = reason-by i.state.finished (rises (slice_get (table_of (flat_in u.shell)).nodes i.node)) (nat_le plan.budget i.state.ticks) (stop_at i.state.ticks plan.errands)
        off s.rests.rests in
        let why : reason_at plan i.state.ticks there.0 ≡ Some reason.0 =
        ap (λ z. if z.finished then Some Finished else if nat_le plan.budget i.state.ticks then Some Budget else if stop_at i.state.ticks plan.errands then Some Stopped else None) there.2
        ∙ reason.1 in
        record {
          parcel = s;
          number = same.number ∙ l.number;
          origin = ap arc_value same.origin ∙ l.origin;
          free = ap (map free_of) same.free ∙ l.free;
          stopped = same.stopped ∙ l.stopped;
          end = reason.0;
          last = there.0;
          ends = subst (λ k. Ends (run_of u.shell) k reason.0 there.0) (sym s.on.at.ticks) (ends there.0 reason.0 there.1 why);
        }

  pub over-alone : (v : Over) → IsLoaded n x (parcel.Over v) → ((q : Queue) × Ends (origin_of (arc_value v.origin)) 0 Finished q × (q.state ≡ state_in v.early)) →
      IsRunAlone n x (parcel.Over v)
  over-alone v l e = record {
    parcel = l.parcel;
    number = l.number;
    origin = l.origin;
    free = l.free;
    stopped = l.stopped;
    end = Finished;
    last = e.0;
    ends = e.1;
  }
