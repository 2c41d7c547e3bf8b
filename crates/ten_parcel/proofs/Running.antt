-- Tenants that run on to their ends.
use Rattle.std.proofs.Common.{◌≡◌, ◌<◌, ◌+◌, ◌-◌, ◌*◌, ℕ, Bool, true, false, [], Option, Some, None, refl, sym, ap, ◌∙◌, subst}
use Rattle.std.specs.Prelude.{◌&&◌, ◌||◌, not, if◌then◌else◌, nat_le, is_none, slice_get}
use Rattle.std.specs.Arc.{arc_value}
use Rattle.vl_eval.specs.vl_design.specs.declared.design.End.{End}
use Rattle.vl_eval.specs.vl_design.specs.declared.design.End.TheVariants.{Finished, Budget, Stopped}
use Rattle.vl_eval.specs.vl_design.specs.Alone.{Plan, reason_at, stop_at}
use Rattle.vl_eval.specs.vl_design.specs.Alone as alone
use Rattle.vl_eval.specs.vl_design.specs.Queue.{Queue}
use Rattle.vl_eval.specs.vl_design.specs.Syntax.{Flat}
use Rattle.ten_core.specs.cell_form.specs.Views.{bank_of}
use Rattle.sub_nodes.specs.Code.{table_of}
use Rattle.sub_nodes.specs.Cycles.{Stage, rises}
use Rattle.sub_runs.specs.Left.{left, most_left}
use Rattle.ten_core.specs.declared.engine.Engine.{Engine}
use Rattle.ten_core.specs.Runs.{Runs}
use Rattle.ten_core.specs.Tenants.{origin_of, tenant_of}
use Rattle.ten_core.specs.Running.{ends_at, goes_on, is_at_rest, to_come}
use Rattle.ten_shell.specs.declared.shell.Shell.{Shell}
use Rattle.ten_shell.specs.Shells.{flat_in, is_at_boundary, left_in, run_of, IsSameTenant, MayCycle, Rests, StandsFor}
use Rattle.ten_parcel.specs.declared.tenant.Tenant.{Tenant}
use Rattle.ten_parcel.specs.Parcels.{IsAtRest, IsOn}
use Rattle.ten_parcel.specs.Ways.{IsNearer, IsReady}
use Rattle.ten_parcel.proofs.Same.{same-run, same-trans}
pub use Rattle.vl_eval.specs.vl_base.proofs.Booleans.{or_right_true as rising-rests, or_unless_both as over-rests, not_by_both as on-alive}

-- ---- tests

pub rest-boundary : (f r : Bool) → (f || r) ≡ true → f ≡ false → (not f && r) ≡ true
rest-boundary true r h e = let z : ⊥ = cc in absurd z
rest-boundary false r h e = h

-- what is told of it step by step
pub told-done : (f r e : Bool) → f ≡ true → false ≡ (not f && (not r || not e))
told-done f r e h = rw h refl

pub told-between : (f r e : Bool) → f ≡ false → r ≡ false → true ≡ (not f && (not r || not e))
told-between f r e h k = rw h (rw k refl)

pub turned : (a b : Bool) → a ≡ not b → b ≡ not a
turned a true e = rw e refl
turned a false e = rw e refl

-- it goes on from a boundary unless it has a reason to end there
going-by : (f r b s : Bool) → f ≡ false → r ≡ true → is_none (if f then Some Finished else if b then Some Budget else if s then Some Stopped else None) ≡ (not f && (not r || not (b || s)))
going-by f r b s h k = rw h (rw k (by b s))
  where
    by : (b s : Bool) → is_none (if b then Some Budget else if s then Some Stopped else None) ≡ not (b || s)
    by true s = refl
    by false true = refl
    by false false = refl

pub told-boundary : (plan : Plan) (d : Flat) (i : Stage) (q : Queue) → q.state ≡ i.state → i.state.finished ≡ false → rises (slice_get (table_of d).nodes i.node) ≡ true →
    (stopped : Bool) → stopped ≡ false → (x : Option End) → x ≡ (if stopped then Some Stopped else reason_at plan i.state.ticks q) → (told : Bool) → told ≡ is_none x →
    told ≡ goes_on plan d i
told-boundary plan d i q same alive up stopped lives x is told e =
    let finished : q.state.finished ≡ false = ap (λ z. z.finished) same ∙ alive in
    let reason : x ≡ reason_at plan i.state.ticks q = is ∙ rw lives refl in
    let going = going-by q.state.finished (rises (slice_get (table_of d).nodes i.node)) (nat_le plan.budget i.state.ticks) (stop_at i.state.ticks plan.errands) finished up in
    e ∙ (ap is_none reason ∙ (going ∙ ap (λ z. not z.finished && (not (rises (slice_get (table_of d).nodes i.node)) || not (ends_at plan i.state.ticks))) same))

-- a run that doesn't go on where it rests has a reason to end
pub reason-by : (f r b s : Bool) → (not f && (not r || not (b || s))) ≡ false → (f || r) ≡ true →
    (end : End) × ((if f then Some Finished else if b then Some Budget else if s then Some Stopped else None) ≡ Some end)
reason-by true r b s h k = (Finished, refl)
reason-by false true true s h k = (Budget, refl)
reason-by false true false true h k = (Stopped, refl)
reason-by false true false false h k = let z : ⊥ = cc in absurd z
reason-by false false b s h k = let z : ⊥ = cc in absurd z

-- ---- where a tenant is, its engine knows

module _ (t : Tenant) (c : ℕ) (i : Stage) (w : IsOn t c i) where
  boundary-is : is_at_boundary (flat_in t.shell) i ≡ (not t.shell.engine.finished && rises (slice_get (table_of (flat_in t.shell)).nodes t.shell.engine.next))
  boundary-is =
      ap (λ f. not f && rises (slice_get (table_of (flat_in t.shell)).nodes i.node)) (sym w.at.finished)
      ∙ ap (λ n. not t.shell.engine.finished && rises (slice_get (table_of (flat_in t.shell)).nodes n)) (sym w.at.next)

  pub is-run : Runs (tenant_of t.shell.engine (bank_of t.bank))
  is-run = record { origin = run_of t.shell; order = w.order; acts = c; stage = i; at = w.at; tame = w.running.tame }

-- the acts that are to come at most
abbrev pub coming : Engine → ℕ
coming e =
    let o = origin_of (arc_value e.origin) in
    (o.plan.budget - e.ticks) * most_left (table_of o.flat) + left (table_of o.flat) e.next

coming-is : (t : Tenant) (c : ℕ) (i : Stage) → IsOn t c i → coming t.shell.engine ≡ to_come (flat_in t.shell) (run_of t.shell).plan.budget i
coming-is t c i w =
    let T = table_of (flat_in t.shell) in
    let b = (run_of t.shell).plan.budget in
    ap (λ k. (b - k) * most_left T + left T t.shell.engine.next) w.at.ticks ∙ ap (λ n. (b - i.state.ticks) * most_left T + left T n) w.at.next

-- ---- tenants that are ready

pub ready-all : (t : Tenant) (c : ℕ) (i : Stage) (d : ℕ) (j : Stage) → IsReady t c i → IsOn t d j → IsReady t d j
ready-all t c i d j r w = record {
  on = w;
  saved = λ e. r.saved (boundary-is t c i r.on ∙ (sym (boundary-is t d j w) ∙ e));
  lives = r.lives;
}

module _ (t : Tenant) (c : ℕ) (i : Stage) (r : IsReady t c i) where
  pub ready-rests : is_at_rest (flat_in t.shell) i ≡ true → Rests t.shell i
  ready-rests h = record {
    rests = h;
    saved = λ f. r.saved (rest-boundary i.state.finished (rises (slice_get (table_of (flat_in t.shell)).nodes i.node)) h f);
  }

  pub ready-cycles : t.shell.engine.waits ≡ false → goes_on (run_of t.shell).plan (flat_in t.shell) i ≡ true → MayCycle t.shell i
  ready-cycles idle on = record { no_call = idle; saved = r.saved; goes_on = on }

-- the tenant that set out here is ready
pub record GoesAlong (from t : Tenant) : Type 0 where
  pub acts : ℕ
  pub stage : Stage
  pub ready : IsReady t acts stage
  pub same : IsSameTenant from.shell t.shell

-- with its snapshots made
pub made-along : (from t : Tenant) (c : ℕ) (i : Stage) → IsOn t c i → from.shell.stopped ≡ false → IsSameTenant from.shell t.shell → (s : Shell) →
    ((c : ℕ) (i : Stage) → StandsFor t.shell (bank_of t.bank) c i → StandsFor s (bank_of t.bank) c i) →
    ((c : ℕ) (i : Stage) → StandsFor s (bank_of t.bank) c i → is_at_boundary (flat_in s) i ≡ true → left_in s ≡ []) → IsSameTenant t.shell s →
    GoesAlong from (record { shell = s; bank = t.bank })
made-along from t c i w lives same s stands none made =
    let v = stands c i w in
    record {
      acts = c;
      stage = i;
      ready = record { on = v; saved = none c i v; lives = made.stopped ∙ (same.stopped ∙ lives) };
      same = same-trans from.shell t.shell s same made;
    }

pub nearer-coming : (t u : Tenant) (c : ℕ) (i : Stage) → IsOn t c i → IsNearer t.shell i u → IsSameTenant t.shell u.shell → (e : Engine) → e ≡ u.shell.engine →
    coming e < coming t.shell.engine
nearer-coming t u c i w n same e is =
    let there : coming e ≡ to_come (flat_in t.shell) (run_of t.shell).plan.budget n.stage =
    ap coming is ∙ (coming-is u n.acts n.stage n.on ∙ ap (λ (o : alone.Origin). to_come o.flat o.plan.budget n.stage) (same-run t.shell u.shell same)) in
    subst (λ k. k < coming t.shell.engine) (sym there)
    (subst (λ k. to_come (flat_in t.shell) (run_of t.shell).plan.budget n.stage < k) (sym (coming-is t c i w)) n.fewer)

-- where its run doesn't go on it rests
pub along-rests : (from t : Tenant) (g : GoesAlong from t) → goes_on (run_of t.shell).plan (flat_in t.shell) g.stage ≡ false → IsAtRest t
along-rests from t g off =
    let i = g.stage in
    record {
      acts = g.acts;
      stage = i;
      on = g.ready.on;
      rests = ready-rests t g.acts i g.ready
          (over-rests i.state.finished (rises (slice_get (table_of (flat_in t.shell)).nodes i.node)) (ends_at (run_of t.shell).plan i.state.ticks) off);
    }
