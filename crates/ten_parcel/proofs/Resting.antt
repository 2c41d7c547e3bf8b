-- What parcels tell: where a tenant rests, the run alone is at a boundary, in the same state.
use Rattle.std.proofs.Common.{◌≡◌, ℕ, true, false, List, [], Option, Some, None, refl, sym, ap, ◌∙◌, subst}
use Rattle.std.specs.Prelude.{if◌then◌else◌, map, option_map, IfSome}
use Rattle.std.specs.Arc.{arc_value}
use Rattle.vl_eval.specs.vl_design.specs.declared.design.End.{End}
use Rattle.vl_eval.specs.vl_design.specs.declared.design.End.TheVariants.{Finished, Stopped}
use Rattle.vl_eval.specs.vl_design.specs.Alone.{Boundary, Ends, Keeps, at_first, first_tick, reason_at, saved_at}
use Rattle.vl_eval.specs.vl_design.specs.Queue.{Queue}
use Rattle.vl_eval.specs.vl_design.specs.State.{State}
use Rattle.vl_eval.specs.vl_design.specs.Snapshots as run
use Rattle.vl_eval.specs.vl_design.specs.Trees.{flat_of}
use Rattle.vl_eval.specs.vl_design.proofs.Settling.{boundary_once}
use Rattle.ten_core.specs.Tenants.{origin_of}
use Rattle.ten_core.specs.ten_plan.specs.Held.{saved_of, snapshot_of}
use Rattle.ten_core.specs.ten_plan.specs.declared.held.Saved.{Saved}
use Rattle.ten_zero.specs.Early.{state_in}
use Rattle.ten_shell.specs.Leaving.{end_in, resting}
use Rattle.ten_shell.specs.Shells as shell
use Rattle.ten_shell.specs.Shells.{saved_in}
use Rattle.ten_parcel.specs.declared.parcel.Over.{Over}
use Rattle.ten_parcel.specs.declared.parcel.Parcel.{Parcel}
use Rattle.ten_parcel.specs.declared.parcel.Parcel.TheVariants as parcel
use Rattle.ten_parcel.specs.declared.tenant.Tenant.{Tenant}
use Rattle.ten_parcel.specs.Parcels.{end_at, free_of, is_stopped, run_of, ticks_of, HasNotEnded, IsAtRest, IsOver}

-- ---- what is told

-- the run alone has printed these bytes at the parcel's boundary, or counted so many acts
abbrev pub HasPrinted : Parcel → List ℕ → Type 0
HasPrinted p printed = (q : Queue) × Boundary (run_of p) (ticks_of p) q × (q.state.printed ≡ printed)

abbrev pub HasCounted : Parcel → ℕ → Type 0
HasCounted p count = (q : Queue) × Boundary (run_of p) (ticks_of p) q × (q.state.count ≡ count)

-- it keeps these snapshots
abbrev pub HasKept : Parcel → List Saved → Type 0
HasKept p saved = Keeps (run_of p) (free_of p) (ticks_of p) (map (saved_of (run_of p).flat.rows) saved)

-- it has this reason to end there, if it has one
abbrev pub HasReason : Parcel → Option End → Type 0
HasReason p end = (q : Queue) → Boundary (run_of p) (ticks_of p) q → end ≡ end_at p q

-- it ends there
abbrev pub HasEnded : Parcel → Option End → Type 0
HasEnded p end = IfSome end (λ e. is_stopped p ≡ false → (q : Queue) × Ends (run_of p) (ticks_of p) e q)

-- ---- tenants

module _ (t : Tenant) (s : IsAtRest t) where
  abbrev pub IsThere : Type 0
  IsThere = (q : Queue) × Boundary (shell.run_of t.shell) s.stage.state.ticks q × (q.state ≡ s.stage.state) × (q.state.count ≡ s.acts)

  bound : (q : Queue) → Boundary (shell.run_of t.shell) s.stage.state.ticks q → Boundary (shell.run_of t.shell) t.shell.engine.ticks q
  bound q at = subst (λ k. Boundary (shell.run_of t.shell) k q) (sym s.on.at.ticks) at

  back : (q : Queue) → Boundary (shell.run_of t.shell) t.shell.engine.ticks q → Boundary (shell.run_of t.shell) s.stage.state.ticks q
  back q at = subst (λ k. Boundary (shell.run_of t.shell) k q) s.on.at.ticks at

  pub printed-there : IsThere → (printed : List ℕ) → printed ≡ s.stage.state.printed → HasPrinted (parcel.Rests t) printed
  printed-there x printed e = (x.0, bound x.0 x.1, ap (λ z. z.printed) x.2 ∙ sym e)

  pub counted-there : IsThere → (count : ℕ) → count ≡ s.acts → HasCounted (parcel.Rests t) count
  counted-there x count e = (x.0, bound x.0 x.1, x.3 ∙ sym e)

  pub kept-there : Keeps (shell.run_of t.shell) (shell.free_in t.shell) s.stage.state.ticks (saved_in t.shell) → HasKept (parcel.Rests t) t.shell.saved.items
  kept-there k = subst (λ n. Keeps (shell.run_of t.shell) (shell.free_in t.shell) n (saved_in t.shell)) (sym s.on.at.ticks) k

  pub reason-there : (x : Option End) →
      ((q : Queue) → Boundary (shell.run_of t.shell) s.stage.state.ticks q → x ≡ (if t.shell.stopped then Some Stopped else reason_at (shell.run_of t.shell).plan s.stage.state.ticks q)) →
      HasReason (parcel.Rests t) x
  reason-there x tells q at =
      subst (λ k. x ≡ (if t.shell.stopped then Some Stopped else reason_at (shell.run_of t.shell).plan k q)) (sym s.on.at.ticks) (tells q (back q at))

  pub ended-there : IsThere →
      ((q : Queue) (end : End) → Boundary (shell.run_of t.shell) s.stage.state.ticks q → reason_at (shell.run_of t.shell).plan s.stage.state.ticks q ≡ Some end →
      Ends (shell.run_of t.shell) s.stage.state.ticks end q) → (x : Option End) → HasReason (parcel.Rests t) x → HasEnded (parcel.Rests t) x
  ended-there there ends None tells = tt
  ended-there there ends (Some end) tells = λ alive.
      let why : Some end ≡ reason_at (shell.run_of t.shell).plan t.shell.engine.ticks there.0 = tells there.0 (bound there.0 there.1) ∙ rw alive refl in
      let here : Some end ≡ reason_at (shell.run_of t.shell).plan s.stage.state.ticks there.0 =
      subst (λ k. Some end ≡ reason_at (shell.run_of t.shell).plan k there.0) s.on.at.ticks why in
      (there.0, subst (λ k. Ends (shell.run_of t.shell) k end there.0) (sym s.on.at.ticks) (ends there.0 end there.1 (sym here)))

  -- where it rests it has no reason to end, and wasn't stopped
  pub unended-there : IsThere → HasNotEnded (parcel.Rests t) → end_in (shell.run_of t.shell).plan t.shell.stopped s.stage.state ≡ None
  unended-there x goes_on =
      let plan = (shell.run_of t.shell).plan in
      let here : (if t.shell.stopped then Some Stopped else reason_at plan s.stage.state.ticks x.0) ≡ None =
      subst (λ k. (if t.shell.stopped then Some Stopped else reason_at plan k x.0) ≡ None) s.on.at.ticks (goes_on x.0 (bound x.0 x.1)) in
      subst (λ (z : State). (if t.shell.stopped then Some Stopped else reason_at plan s.stage.state.ticks (resting z)) ≡ None) x.2 here

  -- what hasn't finished at this boundary rests where the clock rises next
  pub alive-there : IsThere → (q : Queue) → Boundary (shell.run_of t.shell) t.shell.engine.ticks q → q.state.finished ≡ false → s.stage.state.finished ≡ false
  alive-there x q at f =
      let same : x.0 ≡ q = boundary_once x.1 (back q at) in
      ap (λ z. z.finished) (sym x.2) ∙ (ap (λ z. z.state.finished) same ∙ f)

-- ---- runs over in time zero

module _ (x : Over) (s : IsOver x) where
  abbrev pub IsEnded : Type 0
  IsEnded = (q : Queue) × Ends (origin_of (arc_value x.origin)) 0 Finished q × (q.state ≡ state_in x.early)

  pub printed-over : IsEnded → HasPrinted (parcel.Over x) x.early.machine.printed.items
  printed-over e = (e.0, e.1.at, ap (λ z. z.printed) e.2)

  pub counted-over : IsEnded → HasCounted (parcel.Over x) x.early.acts
  counted-over e = (e.0, e.1.at, ap (λ z. z.count) e.2)

  finished-over : (e : IsEnded) → e.0.state.finished ≡ true
  finished-over e = ap (λ z. z.finished) e.2 ∙ s.over.finished

  pub kept-over : IsEnded → HasKept (parcel.Over x) []
  kept-over e =
      let o = origin_of (arc_value x.origin) in
      let first : 0 ≡ first_tick o.resume =
      sym (ap (λ h. first_tick (option_map (snapshot_of (flat_of (arc_value x.origin).image.design).rows) h)) s.over.start) in
      let none : saved_at o [] [] 0 e.0.state ≡ [] = rw (finished-over e) refl in
      subst (λ (xs : List run.Saved). Keeps o [] 0 xs) none (at_first first e.1.at)

  pub reason-over : IsEnded → HasReason (parcel.Over x) (Some Finished)
  reason-over e q at =
      let same : q ≡ e.0 = boundary_once at e.1.at in
      let finished : q.state.finished ≡ true = ap (λ z. z.state.finished) same ∙ finished-over e in
      rw finished refl

  pub never-unended : IsEnded → HasNotEnded (parcel.Over x) → ⊥
  never-unended e goes_on = let z : ◌≡◌ {A = Option End} (Some Finished) None = reason-over e e.0 e.1.at ∙ goes_on e.0 e.1.at in cc

  pub ended-over : IsEnded → HasEnded (parcel.Over x) (Some Finished)
  ended-over e = λ alive. (e.0, e.1)

  pub never-alive : IsEnded → (q : Queue) → Boundary (origin_of (arc_value x.origin)) 0 q → q.state.finished ≡ false → ⊥
  never-alive e q at f =
      let same : e.0 ≡ q = boundary_once e.1.at at in
      let z : ◌≡◌ true false = sym (finished-over e) ∙ (ap (λ z. z.state.finished) same ∙ f) in
      cc
