-- The queues that time zero comes to, event by event (IEEE 1364-2005, clause 11).
use Rattle.std.proofs.Common.{◌≡◌, ℕ, Bool, true, false, List, [], ◌∷◌, Some, refl, sym, ap, ◌∙◌, subst}
use Rattle.std.specs.Prelude.{if◌then◌else◌}
use Rattle.vl_design.specs.vl_base.specs.declared.files.File.{File}
use Rattle.vl_design.specs.Alone.{Plan, Settles, Boundary, start, blocks}
use Rattle.vl_design.specs.Exec.{exec}
use Rattle.vl_design.specs.Functions.{fresh, scope_of, zeros}
use Rattle.vl_design.specs.Queue.{Queue, Phase, Wave, Ended, Updated, next, executed, is_init, wave_ended, updates_done, with_updates}
use Rattle.vl_design.specs.State.{State, counted}
use Rattle.vl_design.specs.Syntax.{Proc, Flat}
use Rattle.vl_design.specs.Width.{Scope}
use Rattle.vl_design.proofs.Resting.{exec_over}
use Rattle.sub_runs.specs.vl_runs.specs.Nets.{pass}
use Rattle.sub_runs.specs.vl_runs.specs.NetsOfSettle.{run}
use Rattle.sub_runs.specs.vl_runs.specs.Checked.{IsChecked, IsOrder}
use Rattle.sub_runs.specs.vl_runs.specs.Runs.{Comes, Calmed, with_values}
use Rattle.sub_runs.specs.vl_runs.proofs.Steady.{IsAccepted, IsSteady}
use Rattle.sub_runs.specs.vl_runs.proofs.Checks.{accepted}
use Rattle.sub_runs.specs.vl_runs.proofs.Calming.{IsBehind, Calming, calming}
use Rattle.sub_runs.specs.vl_runs.proofs.Reaching.{comes_steady}
use Rattle.plain_run.specs.Runs.{over, IsAt, IsQuietAt, Precedes}
use Rattle.plain_run.proofs.Events.{next-over, next-block, next-end, next-update, next-none, calms-come, calms-precede}
use Rattle.sub_runs.specs.sub_nodes.specs.Cycles.{execs, settled}
use Rattle.sub_runs.specs.sub_nodes.specs.Implements.{bodies}
use Rattle.sub_runs.specs.Nets.{nets_of}
use Rattle.ten_zero.specs.Early.{blocks_done, from_zero, wave_done, zero_done}

-- once a run has finished, statements change nothing
execs-over : (scope : Scope) (ps : List Proc) (s : State) → s.finished ≡ true → execs scope (bodies ps) s ≡ s
execs-over scope [] s h = refl
execs-over scope (p ∷ ps) s h = ap (execs scope (bodies ps)) (exec_over scope p.body s h) ∙ execs-over scope ps s h

module _ (d : Flat) (files : List File) where
  -- a queue of this kind, which the run comes to behind the first one, is in this state
  record Stands (IsThere : Queue → Type 0) (s : State) : Type 0 where
    pub queue : Queue
    pub state : queue.state ≡ s
    pub there : IsThere queue
    pub comes : Comes (over d files 0) queue
    pub leads : Precedes d files (start d) queue

  alive-at : (P : Queue → Type 0) (s : State) → (x : Stands P s) → s.finished ≡ false → x.queue.state.finished ≡ false
  alive-at P s x f = ap {A = State} {B = Bool} (λ t. t.finished) x.state ∙ f

  by-event : (P Q : Queue → Type 0) (s t : State) (r : Queue) (x : Stands P s) → next d files x.queue ≡ Some r → r.state ≡ t → Q r → Stands Q t
  by-event P Q s t r x e g h = record {
    queue = r;
    state = g;
    there = h;
    comes = Comes.goes x.comes e;
    leads = λ q y. x.leads q (Settles.goes e y);
  }

  -- ---- the blocks

  -- of the wave these blocks are left: none unless the run has finished
  record StandsInWave (s : State) : Type 0 where
    pub left : List Proc
    pub stands : Stands (IsAt (Wave left) []) s
    pub over : s.finished ≡ false → left ≡ []

  stays : (bs : List Proc) (s : State) → Stands (IsAt (Wave bs) []) s → s.finished ≡ true → StandsInWave s
  stays bs s x f = record { left = bs; stands = x; over = λ g. let z : ⊥ = cc in absurd z }

  moves : (b : Proc) (bs : List Proc) (s : State) → Stands (IsAt (Wave (b ∷ bs)) []) s → s.finished ≡ false → Stands (IsAt (Wave bs) []) (exec (scope_of d files) b.body s)
  moves b bs s x f =
      let at : IsAt (Wave (b ∷ bs)) [] x.queue = x.there in
      by-event (IsAt (Wave (b ∷ bs)) []) (IsAt (Wave bs) []) s (exec (scope_of d files) b.body s) (executed d files x.queue b bs) x
      (next-block d files x.queue b bs (alive-at (IsAt (Wave (b ∷ bs)) []) s x f) at.phase) (ap {A = State} {B = State} (exec (scope_of d files) b.body) x.state)
      (record { phase = refl; ahead = at.ahead })

  blocks-by : (b : Proc) (bs : List Proc) (s : State) → Stands (IsAt (Wave (b ∷ bs)) []) s →
      (Stands (IsAt (Wave bs) []) (exec (scope_of d files) b.body s) → StandsInWave (execs (scope_of d files) (bodies (b ∷ bs)) s)) →
      (f : Bool) → s.finished ≡ f → StandsInWave (execs (scope_of d files) (bodies (b ∷ bs)) s)
  blocks-by b bs s x rest true f = subst StandsInWave (sym (execs-over (scope_of d files) (b ∷ bs) s f)) (stays (b ∷ bs) s x f)
  blocks-by b bs s x rest false f = rest (moves b bs s x f)

  blocks-go : (bs : List Proc) (s : State) → Stands (IsAt (Wave bs) []) s → StandsInWave (execs (scope_of d files) (bodies bs) s)
  blocks-go [] s x = record { left = []; stands = x; over = λ f. refl }
  blocks-go (b ∷ bs) s x = blocks-by b bs s x (λ y. blocks-go bs (exec (scope_of d files) b.body s) y) s.finished refl

  begins : Stands (IsAt (Wave (blocks is_init d.procs)) []) (fresh (zeros d.rows))
  begins = record { queue = start d; state = refl; there = record { phase = refl; ahead = refl }; comes = Comes.begins; leads = λ q y. y }

  -- ---- behind the wave

  ends : (s : State) → s.finished ≡ false → Stands (IsAt (Wave []) []) s → Stands (IsAt Ended []) (counted s)
  ends s f x =
      let at : IsAt (Wave []) [] x.queue = x.there in
      by-event (IsAt (Wave []) []) (IsAt Ended []) s (counted s) (wave_ended x.queue) x
      (next-end d files x.queue (alive-at (IsAt (Wave []) []) s x f) at.phase) (ap {A = State} {B = State} counted x.state) (record { phase = refl; ahead = at.ahead })

  updates : (s : State) → s.finished ≡ false → Stands (IsQuietAt d Ended []) s → Stands (IsAt Updated []) (counted (with_updates d.rows s))
  updates s f x =
      let at : IsQuietAt d Ended [] x.queue = x.there in
      by-event (IsQuietAt d Ended []) (IsAt Updated []) s (counted (with_updates d.rows s)) (updates_done d files x.queue) x
      (next-update d files x.queue [] (alive-at (IsQuietAt d Ended []) s x f) at) (ap {A = State} {B = State} (λ t. counted (with_updates d.rows t)) x.state)
      (record { phase = refl; ahead = at.place.ahead })

  module _ (order : List ℕ) (checked : IsChecked d) (ord : IsOrder d order) where
    abbrev calm : State → State
    calm s = settled d files (nets_of d files order) s

    -- evaluations lead to what one pass gives
    calms : (at : Phase) (s : State) → IsBehind at → s.finished ≡ false → Stands (IsAt at []) s → Stands (IsQuietAt d at []) (calm s)
    calms at s b f x =
        let there : IsAt at [] x.queue = x.there in
        let alive : x.queue.state.finished ≡ false = alive-at (IsAt at []) s x f in
        let acc : IsAccepted d = accepted d checked in
        let steady : IsSteady d files x.queue = comes_steady (over d files 0) acc order ord tt x.comes alive in
        let r : Calming d files acc order ord x.queue = calming d files acc order ord x.queue alive steady.ready in
        let c : Calmed d files x.queue = r.calmed in
        let behind : IsBehind x.queue.phase = subst IsBehind (sym there.phase) b in
        let values : c.values ≡ pass (run d files x.queue.state) order x.queue.state.values = r.pass in
        let state : (with_values x.queue c.values c.pending).state ≡ calm s =
        ap {A = List (List ℕ)} {B = State} (λ v. record (x.queue.state) { values = v }) values
        ∙ ap {A = State} {B = State} (λ t. record t { values = pass (run d files t) order t.values }) x.state in
        record {
          queue = with_values x.queue c.values c.pending;
          state = state;
          there = record { place = record { phase = there.phase; ahead = there.ahead }; none = c.calm.none };
          comes = calms-come d files c.calms alive behind x.comes;
          leads = λ q y. x.leads q (calms-precede d files c.calms alive behind q y);
        }

    -- the nets, the update, and the nets again
    behind-wave : (s : State) → s.finished ≡ false → Stands (IsAt (Wave []) []) s → Stands (IsQuietAt d Updated []) (wave_done d files order s)
    behind-wave s f x =
        let once = counted s in
        let quiet = calm once in
        let twice = counted (with_updates d.rows quiet) in
        calms Updated twice tt f (updates quiet f (calms Ended once tt f (ends s f x)))

    -- ---- the first boundary

    pub record IsFirst (s : State) : Type 0 where
      pub queue : Queue
      pub boundary : (plan : Plan) → Boundary (from_zero d files plan) 0 queue
      pub state : queue.state ≡ s
      pub quiet : s.finished ≡ false → IsQuietAt d Updated [] queue

    first-over : (left : List Proc) (s : State) → s.finished ≡ true → Stands (IsAt (Wave left) []) s → IsFirst s
    first-over left s f x = record {
      queue = x.queue;
      boundary = λ plan.
          Boundary.begun refl (x.leads x.queue (Settles.rests (next-over d files x.queue (ap {A = State} {B = Bool} (λ t. t.finished) x.state ∙ f))));
      state = x.state;
      quiet = λ g. let z : ⊥ = cc in absurd z;
    }

    first-quiet : (s : State) → s.finished ≡ false → Stands (IsQuietAt d Updated []) s → IsFirst s
    first-quiet s f x = record {
      queue = x.queue;
      boundary = λ plan.
          Boundary.begun refl (x.leads x.queue (Settles.rests (next-none d files x.queue (alive-at (IsQuietAt d Updated []) s x f) x.there)));
      state = x.state;
      quiet = λ g. x.there;
    }

    abbrev done : State
    done = blocks_done d files (fresh (zeros d.rows))

    in-wave : StandsInWave done
    in-wave = blocks-go (blocks is_init d.procs) (fresh (zeros d.rows)) begins

    by-end : (f : Bool) → done.finished ≡ f → IsFirst (zero_done d files order)
    by-end true f =
        let e : zero_done d files order ≡ done = ap (λ (b : Bool). if b then done else wave_done d files order done) f in
        subst IsFirst (sym e) (first-over in-wave.left done f in-wave.stands)
    by-end false f =
        let e : zero_done d files order ≡ wave_done d files order done = ap (λ (b : Bool). if b then done else wave_done d files order done) f in
        let x = subst (λ (left : List Proc). Stands (IsAt (Wave left) []) done) (in-wave.over f) in-wave.stands in
        subst IsFirst (sym e) (first-quiet (wave_done d files order done) f (behind-wave done f x))

    -- time zero comes to the first boundary
    pub first : IsFirst (zero_done d files order)
    first = by-end done.finished refl
