-- Ticks, boundaries, and ends.
use Rattle.std.proofs.Common.{◌≡◌, ◌<◌, ◌≤◌, ◌+◌, ℕ, zero, suc, Bool, true, false, List, [], ◌∷◌, refl, sym, ap, ◌∙◌, arith, subst}
use Rattle.std.specs.Prelude.{None, nat_lt, nat_le, if◌then◌else◌}
use Rattle.std.proofs.lemmas.Bool.{ltb-true, ltb-false}
use Rattle.std.proofs.lemmas.Bool.Decides.{nat_tests}
use Rattle.vl_eval.specs.vl_base.specs.declared.files.File.{File}
use Rattle.vl_eval.specs.vl_design.specs.declared.design.ProcKind.TheVariants.{Init, Rise, Fall}
use Rattle.vl_eval.specs.vl_design.specs.Syntax.{Proc, Flat}
use Rattle.vl_eval.specs.vl_design.specs.State.{State}
use Rattle.vl_eval.specs.vl_design.specs.Functions.{fresh, zeros}
use Rattle.vl_eval.specs.vl_design.specs.Queue.{Queue, Phase, Wave, next, is_rise, is_fall}
use Rattle.vl_eval.specs.vl_design.specs.Alone.{Settles, Boundary, start, risen, blocks, falls, reason_at}
use Rattle.vl_eval.specs.vl_design.proofs.Settling.{boundary_once}
use Rattle.vl_run.specs.declared.machine.Machine.{Machine}
use Rattle.vl_run.specs.Machines.{state_of}
use Rattle.vl_runs.specs.Runs.{Comes}
use Rattle.plain_run.specs.Runs.{over, wave_of, has_fall, IsAt, IsDone, StandsBehind, SettlesAs, Completes, Rests, StandsAt, GoesOn}
use Rattle.plain_run.proofs.Bodies.{no-falls, with-falls}
use Rattle.plain_run.proofs.Events.{next-over, next-wave, next-none}
use Rattle.plain_run.proofs.Waves.{alive-at, by-event}

module _ (d : Flat) (files : List File) where
  -- a queue that stands for a machine behind the tick has no next event
  rests-none : (q : Queue) (m : Machine) → Rests d files q m → next d files q ≡ None
  rests-none q m h = go m.finished refl
    where
      same : q.state.finished ≡ m.finished
      same = ap {A = State} {B = Bool} (λ s. s.finished) (h.state)

      go : (b : Bool) → m.finished ≡ b → next d files q ≡ None
      go true f = next-over d files q (same ∙ f)
      go false f = next-none d files q (same ∙ f) (h.done f)

  -- the first queue settles in one that stands for a machine behind the tick
  rests : (first : Queue) (m : Machine) → StandsBehind d files first (IsDone d m []) m → (q : Queue) × Settles d files first q × Rests d files q m
  rests first m x =
      let r : Rests d files x.queue m = record { count = x.count; state = x.state; done = x.there; comes = x.comes } in
      (x.queue, x.leads x.queue (Settles.rests (rests-none x.queue m r)), r)

  -- ---- the fall

  pub completes-here : (m : Machine) → has_fall d ≡ false → Completes d files (falls (blocks is_fall d.procs)) m m
  completes-here m h = record {
    leads = λ first x. subst (λ (waves : List (List Proc)). StandsBehind d files first (IsDone d m waves) m) (no-falls d h) x;
  }

  pub completes-fall : (m n : Machine) → m.finished ≡ false → has_fall d ≡ true → SettlesAs d files (wave_of d Fall) m n → Completes d files (falls (blocks is_fall d.procs)) m n
  completes-fall m n f h s = record {
    leads = λ first y.
        let x = subst (λ (waves : List (List Proc)). StandsBehind d files first (IsDone d m waves) m) (with-falls d h) y in
        let w = wave_of d Fall in
        let begins : StandsBehind d files first (IsAt (Wave w) []) m =
        by-event d files first (IsDone d m (w ∷ [])) (IsAt (Wave w) []) m m x.count (record (x.queue) { phase = Wave w; ahead = [] }) x
        (next-wave d files x.queue w [] (alive-at d files first (IsDone d m (w ∷ [])) m x f) (x.there f)) x.state (record { phase = refl; ahead = refl }) in
        s.leads first [] begins;
  }

  -- ---- the rise

  -- where a run goes on, the next tick begins at its rise
  abbrev up : Queue → Queue
  up q = record q {
    state = record (q.state) { ticks = q.state.ticks + 1; saves = [] };
    phase = Wave (blocks is_rise d.procs);
    ahead = falls (blocks is_fall d.procs);
  }

  risen-up : (q : Queue) → q.state.finished ≡ false → risen d q ≡ up q
  risen-up q f = ap {A = Bool} {B = Queue} (λ b. if b then q else up q) f

  rises : (q : Queue) (m r : Machine) → m.finished ≡ false → ((c : ℕ) → state_of r c ≡ record (state_of m c) { ticks = m.ticks + 1; saves = [] }) → Rests d files q m →
      StandsBehind d files (risen d q) (IsAt (Wave (wave_of d Rise)) (falls (blocks is_fall d.procs))) r
  rises q m r f e h =
      let alive : q.state.finished ≡ false = ap {A = State} {B = Bool} (λ s. s.finished) (h.state) ∙ f in
      let begun : risen d q ≡ up q = risen-up q alive in
      record {
        queue = risen d q;
        count = h.count;
        state = ap {A = Queue} {B = State} (λ q. q.state) begun ∙ ap {A = State} {B = State} (λ s. record s { ticks = s.ticks + 1; saves = [] }) (h.state) ∙ sym (e h.count);
        there = record { phase = ap {A = Queue} {B = Phase} (λ q. q.phase) begun; ahead = ap {A = Queue} {B = List (List Proc)} (λ q. q.ahead) begun };
        comes = Comes.rises h.comes (rests-none q m h);
        leads = λ x s. s;
      }

  -- ---- boundaries

  module _ (budget : ℕ) where
    pub ticked-once : (k : ℕ) (m r n o : Machine) → m.finished ≡ false → ((c : ℕ) → state_of r c ≡ record (state_of m c) { ticks = m.ticks + 1; saves = [] }) →
        SettlesAs d files (wave_of d Rise) r n → Completes d files (falls (blocks is_fall d.procs)) n o → StandsAt d files budget k m → StandsAt d files budget (suc k) o
    ticked-once k m r n o f e s t (q, b, h) =
        let x = rests (risen d q) o (t.leads (risen d q) (s.leads (risen d q) (falls (blocks is_fall d.procs)) (rises q m r f e h))) in
        (x.0, Boundary.ticked b x.1, x.2)

    -- time zero
    pub stands-zero : (m n : Machine) → state_of m 0 ≡ fresh (zeros d.rows) → SettlesAs d files (wave_of d Init) m n → StandsAt d files budget zero n
    stands-zero m n e s =
        let begins : StandsBehind d files (start d) (IsAt (Wave (wave_of d Init)) []) m =
        record { queue = start d; count = 0; state = sym e; there = record { phase = refl; ahead = refl }; comes = Comes.begins; leads = λ x t. t } in
        let x = rests (start d) n (s.leads (start d) [] begins) in
        (x.0, Boundary.begun refl x.1, x.2)

    pub goes-on-zero : GoesOn d files budget zero
    goes-on-zero = λ j b h at. absurd (omega arith)

    -- a boundary that has no reason to end
    pub goes-more : (k : ℕ) (m : Machine) → m.finished ≡ false → k < budget → StandsAt d files budget k m → GoesOn d files budget k → GoesOn d files budget (k + 1)
    goes-more k m f lt (q, b, quiet) before = λ j c h at. go j c (nat_lt j k) refl h at
      where
        go : (j : ℕ) (c : Queue) (t : Bool) → nat_lt j k ≡ t → j < k + 1 → Boundary (over d files budget) j c → reason_at (over d files budget).plan j c ≡ None
        go j c true e h at = before j c (ltb-true j k e) at
        go j c false e h at =
            let past : k ≤ j = ltb-false j k e in
            let same : j ≡ k = omega arith in
            let here : c ≡ q = boundary_once (subst (λ i. Boundary (over d files budget) i c) same at) b in
            let on : c.state.finished ≡ false = rw (here, quiet.state) f in
            let left : nat_le budget j ≡ false = grind (arith, nat_tests) in
            rw (on, left) refl
