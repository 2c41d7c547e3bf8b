-- A boundary at which the run has not finished is of its tick, and the run act by act comes to it.
use Rattle.std.proofs.Common.{◌≡◌, ℕ, suc, ◌+◌, Bool, true, false, List, [], ◌∷◌, Option, Some, None, refl, sym, ◌∙◌, ap, subst, add-one}
use Rattle.std.specs.Prelude.{◌||◌, if◌then◌else◌}
use Rattle.vl_paths.specs.vl_base.specs.declared.files.File.{File}
use Rattle.vl_paths.specs.vl_design.specs.Syntax.{Proc, Flat}
use Rattle.vl_paths.specs.vl_design.specs.Functions.{scope_of}
use Rattle.vl_paths.specs.vl_design.specs.Queue.{Queue, Phase, Wave, Ended, Updated, first_pending, next_phase, next_pending, next_event, next, is_rise, is_fall}
use Rattle.vl_paths.specs.vl_design.specs.Snapshots.{Snapshot}
use Rattle.vl_paths.specs.vl_design.specs.Alone.{Origin, Settles, rests, goes, Boundary, begun, ticked, first_queue, first_tick, risen, blocks, falls, Shows}
use Rattle.vl_paths.specs.vl_design.specs.Acts.{Point, Between, state_at, at_boundary, is_last, tick_of, After}
use Rattle.vl_paths.specs.vl_design.specs.Laws.{IsUnrolled, HasQuietNets, IsReached}
use Rattle.vl_paths.specs.vl_design.proofs.Running.{some_is}
use Rattle.vl_paths.specs.vl_design.proofs.Returning.{exec_ticks}
use Rattle.vl_paths.specs.vl_design.proofs.Agreeing.{alive, agrees}
use Rattle.vl_runs.proofs.Logic.{never}

pub some_next : {q : Queue} → ◌≡◌ {A = Option Queue} (Some q) None → ⊥
some_next h = cc

module _ (d : Flat) (files : List File) where
  -- ---- no event begins a tick

  abbrev SameTick : Queue → Queue → Type 0
  SameTick q r = r.state.ticks ≡ q.state.ticks

  phase_ticks : (q r : Queue) (phase : Phase) (ahead : List (List Proc)) → next_phase d files q phase ahead ≡ Some r → SameTick q r
  phase_ticks q r (Wave ps) ahead h = let z : ⊥ = cc in absurd z
  phase_ticks q r Ended ahead h = subst (SameTick q) (some_is h) refl
  phase_ticks q r Updated [] h = let z : ⊥ = cc in absurd z
  phase_ticks q r Updated (w ∷ ws) h = subst (SameTick q) (some_is h) refl

  pending_ticks : (q r : Queue) (b : Option Proc) → next_pending d files q b ≡ Some r → SameTick q r
  pending_ticks q r None h = phase_ticks q r q.phase q.ahead h
  pending_ticks q r (Some p) h = subst (SameTick q) (some_is h) (sym (exec_ticks (scope_of d files) p.body q.state))

  event_ticks : (q r : Queue) (phase : Phase) → next_event d files q phase ≡ Some r → SameTick q r
  event_ticks q r (Wave []) h = subst (SameTick q) (some_is h) refl
  event_ticks q r (Wave (p ∷ ps)) h = subst (SameTick q) (some_is h) (sym (exec_ticks (scope_of d files) p.body q.state))
  event_ticks q r Ended h = pending_ticks q r (first_pending d.procs q.pending) h
  event_ticks q r Updated h = pending_ticks q r (first_pending d.procs q.pending) h

  next_ticks : (q r : Queue) → next d files q ≡ Some r → SameTick q r
  next_ticks q r h = at q.state.finished h
    where
      at : (b : Bool) → (if b then None else next_event d files q q.phase) ≡ Some r → SameTick q r
      at true h = let z : ⊥ = cc in absurd z
      at false h = event_ticks q r q.phase h

  settles_ticks : {q r : Queue} → Settles d files q r → SameTick q r
  settles_ticks (rests e) = refl
  settles_ticks (goes {q = q} {r = r} e s) = settles_ticks s ∙ next_ticks q r e

  settled_rests : {q r : Queue} → Settles d files q r → next d files r ≡ None
  settled_rests (rests e) = e
  settled_rests (goes e s) = settled_rests s

  over_stays : {q r : Queue} → q.state.finished ≡ true → Settles d files q r → r.state.finished ≡ true
  over_stays f (rests e) = f
  over_stays {q} f (goes {r = r} e s) = let z : next d files q ≡ None = rw f refl in absurd (some_next (sym e ∙ z))

  -- ---- where a run rests, its tick is over

  pub ended_goes : (q : Queue) (b : Option Proc) → q.phase ≡ Ended → next_pending d files q b ≡ None → ⊥
  ended_goes q None e n = some_next (subst (λ x. next_phase d files q x q.ahead ≡ None) e n)
  ended_goes q (Some p) e n = some_next n

  updated_last : (q : Queue) (b : Option Proc) (ahead : List (List Proc)) → q.phase ≡ Updated → q.ahead ≡ ahead → next_pending d files q b ≡ None → is_last Updated ahead ≡ true
  updated_last q (Some p) ahead e a n = absurd (some_next n)
  updated_last q None [] e a n = refl
  updated_last q None (w ∷ ws) e a n =
      absurd (some_next (subst (λ x. next_phase d files q Updated x ≡ None) a (subst (λ x. next_phase d files q x q.ahead ≡ None) e n)))

  event_last : (q : Queue) (phase : Phase) → q.phase ≡ phase → next_event d files q phase ≡ None → is_last phase q.ahead ≡ true
  event_last q (Wave []) e n = absurd (some_next n)
  event_last q (Wave (p ∷ ps)) e n = absurd (some_next n)
  event_last q Ended e n = absurd (ended_goes q (first_pending d.procs q.pending) e n)
  event_last q Updated e n = updated_last q (first_pending d.procs q.pending) q.ahead e refl n

  rests_last : (q : Queue) → next d files q ≡ None → q.state.finished ≡ false → is_last q.phase q.ahead ≡ true
  rests_last q n f = event_last q q.phase refl (sym (alive q.state.finished None (next_event d files q q.phase) f) ∙ n)

module _ (o : Origin) where
  first_ticks : (s : Option Snapshot) → (first_queue o s).state.ticks ≡ first_tick s
  first_ticks None = refl
  first_ticks (Some s) = refl

  tick_more : {k : ℕ} (b q : Queue) → Settles o.flat o.files (risen o.flat b) q → q.state.finished ≡ false → (b.state.finished ≡ false → b.state.ticks ≡ k) → (z : Bool) → b.state.finished ≡ z → q.state.ticks ≡ suc k
  tick_more b q s f g true e =
      let same : risen o.flat b ≡ b = rw e refl in
      never (over_stays o.flat o.files (subst (λ z. z.state.finished ≡ true) (sym same) e) s) f
  tick_more {k} b q s f g false e =
      let up : Queue = record b { state = record (b.state) { ticks = b.state.ticks + 1; saves = [] }; phase = Wave (blocks is_rise o.flat.procs); ahead = falls (blocks is_fall o.flat.procs) } in
      let same : risen o.flat b ≡ up = alive b.state.finished b up e in
      settles_ticks o.flat o.files s ∙ (ap (λ z. z.state.ticks) same ∙ (ap (λ n. n + 1) (g e) ∙ add-one k))

  pub boundary_tick : {k : ℕ} {q : Queue} → Boundary o k q → q.state.finished ≡ false → q.state.ticks ≡ k
  boundary_tick (begun e s) f = settles_ticks o.flat o.files s ∙ (first_ticks o.resume ∙ sym e)
  boundary_tick (ticked {before = b} {after = q} x s) f = tick_more b q s f (λ g. boundary_tick x g) b.state.finished refl

  boundary_rests : {k : ℕ} {q : Queue} → Boundary o k q → next o.flat o.files q ≡ None
  boundary_rests (begun e s) = settled_rests o.flat o.files s
  boundary_rests (ticked b s) = settled_rests o.flat o.files s

  or_true : (b : Bool) → (b || true) ≡ true
  or_true true = refl
  or_true false = refl

  tick_is : (q : Queue) → at_boundary (Between q) ≡ true → tick_of (Between q) ≡ q.state.ticks
  tick_is q h = let e : (q.state.finished || at_boundary (Between q)) ≡ true = ap (λ b. q.state.finished || b) h ∙ or_true q.state.finished in rw e refl

  at_it : {k : ℕ} (q : Queue) → Boundary o k q → q.state.finished ≡ false → (at_boundary (Between q) ≡ true) × (tick_of (Between q) ≡ k)
  at_it q b f = let l = rests_last o.flat o.files q (boundary_rests b) f in (l, tick_is q l ∙ boundary_tick b f)

  -- where a run shows something alone, it has shown it after as many acts; and it is at that boundary, unless it has finished
  pub shown_after : {k c : ℕ} {bytes : List ℕ} → IsUnrolled o.flat → HasQuietNets o.flat → Shows o k bytes c
      → (p : Point) × After o c p × ((state_at p).printed ≡ bytes) × ((state_at p).finished ≡ false → (at_boundary p ≡ true) × (tick_of p ≡ k))
  shown_after {k} u quiet s =
      let q = s.0 in
      let r : IsReached o q = agrees o u quiet s.1 in (
        r.point,
        subst (λ n. After o n r.point) s.3 r.after,
        ap (λ z. z.printed) r.same ∙ s.2,
        λ f.
            let g = ap (λ z. z.finished) (sym r.same) ∙ f in
            subst (λ p. (at_boundary p ≡ true) × (tick_of p ≡ k)) (sym (r.between g)) (at_it q s.1 g),
      )
