-- Where each point of a run act by act stands in the run by events.
use Rattle.std.proofs.Common.{◌≡◌, ℕ, ◌+◌, Bool, true, false, List, [], ◌∷◌, ◌++◌, Option, Some, None, refl, sym, ◌∙◌, ap, subst, append_assoc, append-nil}
use Rattle.std.specs.Prelude.{⊤, if◌then◌else◌, All}
use Rattle.std.proofs.lemmas.List.Elements.{All-nil, All-cons, All-head, All-tail}
use Rattle.vl_paths.specs.vl_design.specs.Syntax.{Task, Stm, Proc}
use Rattle.vl_paths.specs.vl_design.specs.Width.{Scope}
use Rattle.vl_paths.specs.vl_design.specs.State.{State, counted}
use Rattle.vl_paths.specs.vl_design.specs.Tasks.{called}
use Rattle.vl_paths.specs.vl_design.specs.Exec.{exec}
use Rattle.vl_paths.specs.vl_design.specs.Functions.{scope_of}
use Rattle.vl_paths.specs.vl_design.specs.Queue.{Queue, Phase, Wave, Ended, Updated, first_pending, evaluated, executed, wave_ended, updates_done, next_phase, next_pending, next_event, next, is_rise, is_fall}
use Rattle.vl_paths.specs.vl_design.specs.Snapshots.{Snapshot}
use Rattle.vl_paths.specs.vl_design.specs.Alone.{Origin, risen, blocks, falls, first_queue}
use Rattle.vl_paths.specs.vl_design.specs.Acts as act
use Rattle.vl_paths.specs.vl_design.specs.Acts.{Pause, Through, AtCall, AtChoice, uptos, Point, Between, Inside, state_at, queue_at, entered, entered_by, Reached, Calls, Chooses, with_block, by_pause, through_blocks, reach, Calms, calm, Did, Act, of_wave, updates, Begins, from_nothing, from_snapshot, After, acts, NextIs, Before}
use Rattle.vl_paths.specs.vl_design.specs.Laws.{IsUnrolledStm, IsUnrolled, HasQuietNets}
use Rattle.vl_paths.specs.vl_design.proofs.Acting.{left_of}
use Rattle.vl_paths.specs.vl_design.proofs.Agreeing.{IsBare, Fits, woken_comb, blocks_unrolled, falls_unrolled, body_rests, evaluated_fits, at_first, alive}
use Rattle.vl_runs.specs.Runs.{Comes, begins, goes, rises}
use Rattle.vl_runs.specs.Log.{Moment, call_at, choice_at, moments, exec_all, all_moments}
use Rattle.vl_runs.specs.Blocks.{InWave, at_zero, behind, runs, Stage, at_start, at_end, at_update, IsAt}
use Rattle.vl_runs.proofs.Logging.{Pauses, uptos_pause}

module _ (o : Origin) (u : IsUnrolled o.flat) (quiet : HasQuietNets o.flat) where
  abbrev scope : Scope
  scope = scope_of o.flat o.files

  -- ---- events

  -- the run by events comes to this queue
  pub record Way (q : Queue) : Type 0 where
    pub comes : Comes o q
    pub alive : q.state.finished ≡ false
    pub fits : Fits o.flat q

  pub by_phase : (q : Queue) (phase : Phase) → q.state.finished ≡ false → q.phase ≡ phase → next o.flat o.files q ≡ next_event o.flat o.files q phase
  by_phase q phase f e = alive q.state.finished None _ f ∙ ap (next_event o.flat o.files q) e

  abbrev pub Idle : Phase → Type 0
  Idle (Wave ps) = ⊥
  Idle Ended = ⊤
  Idle Updated = ⊤

  idle_next : (q : Queue) (phase : Phase) → Idle phase → q.state.finished ≡ false → q.phase ≡ phase → next o.flat o.files q ≡ next_pending o.flat o.files q (first_pending o.flat.procs q.pending)
  idle_next q (Wave ps) i f e = absurd i
  idle_next q Ended i f e = by_phase q Ended f e
  idle_next q Updated i f e = by_phase q Updated f e

  pub quiet_next : (q : Queue) (phase : Phase) → Idle phase → q.state.finished ≡ false → q.phase ≡ phase → first_pending o.flat.procs q.pending ≡ None → next o.flat o.files q ≡ next_phase o.flat o.files q phase q.ahead
  quiet_next q phase i f e n = idle_next q phase i f e ∙ (ap (next_pending o.flat o.files q) n ∙ ap (λ x. next_phase o.flat o.files q x q.ahead) e)

  way_on : {q : Queue} → Way q → (r : Queue) → next o.flat o.files q ≡ Some r → r.state.finished ≡ false → Fits o.flat r → Way r
  way_on w r e f g = record { comes = goes w.comes e; alive = f; fits = g }

  way_evaluated : {q : Queue} (p : Proc) → Way q → Idle q.phase → first_pending o.flat.procs q.pending ≡ Some p → Way (evaluated o.flat o.files q p)
  way_evaluated {q} p w i e =
      way_on w (evaluated o.flat o.files q p) (idle_next q q.phase i w.alive refl ∙ ap (next_pending o.flat o.files q) e)
      ((body_rests o u quiet q p w.fits e).finished ∙ w.alive) (evaluated_fits o u quiet q p w.fits)

  -- where the processes that are pending have been evaluated
  record Calmed (q r : Queue) : Type 0 where
    pub way : Way r
    pub none : first_pending o.flat.procs r.pending ≡ None
    pub phase : r.phase ≡ q.phase

  calms_way : {q r : Queue} → Calms o.flat o.files q r → Way q → Idle q.phase → Calmed q r
  calms_way (calm e) w i = record { way = w; none = e; phase = refl }
  calms_way (act.goes {p = p} e c) w i = let z = calms_way c (way_evaluated p w i e) i in record { way = z.way; none = z.none; phase = z.phase }

  pub way_ended : {q : Queue} → Way q → q.phase ≡ Wave [] → Way (wave_ended q)
  way_ended {q} w e =
      way_on w (wave_ended q) (by_phase q (Wave []) w.alive e) w.alive (record { pending = w.fits.pending; left = All-nil IsBare; ahead = w.fits.ahead })

  pub way_updated : {q : Queue} → Way q → q.phase ≡ Ended → first_pending o.flat.procs q.pending ≡ None → Way (updates_done o.flat o.files q)
  way_updated {q} w e n =
      way_on w (updates_done o.flat o.files q) (quiet_next q Ended tt w.alive e n) w.alive
      (record { pending = woken_comb _ _ o.flat.procs q.pending w.fits.pending; left = All-nil IsBare; ahead = w.fits.ahead })

  -- behind an update: the next wave, or the end of the tick
  way_wave : {q : Queue} (p : List Proc) (ps : List (List Proc)) → Way q → q.phase ≡ Updated → first_pending o.flat.procs q.pending ≡ None → q.ahead ≡ p ∷ ps → Way (record q { phase = Wave p; ahead = ps })
  way_wave {q} p ps w e n a =
      let v : All (All IsBare) (p ∷ ps) = subst (All (All IsBare)) a w.fits.ahead in
      way_on w (record q { phase = Wave p; ahead = ps }) (quiet_next q Updated tt w.alive e n ∙ ap (next_phase o.flat o.files q Updated) a) w.alive
      (record { pending = w.fits.pending; left = All-head (All IsBare) p ps v; ahead = All-tail (All IsBare) p ps v })

  way_risen : {q : Queue} → Way q → q.phase ≡ Updated → first_pending o.flat.procs q.pending ≡ None → q.ahead ≡ [] → Way (risen o.flat q)
  way_risen {q} w e n a =
      let t : State = record (q.state) { ticks = q.state.ticks + 1; saves = [] } in
      let r : Queue = record q { state = t; phase = Wave (blocks is_rise o.flat.procs); ahead = falls (blocks is_fall o.flat.procs) } in
      let same : risen o.flat q ≡ r = alive q.state.finished q r w.alive in
      record {
        comes = rises w.comes (quiet_next q Updated tt w.alive e n ∙ ap (next_phase o.flat o.files q Updated) a);
        alive = ap (λ z. z.state.finished) same ∙ w.alive;
        fits = subst (Fits o.flat) (sym same) (record {
          pending = w.fits.pending;
          left = blocks_unrolled is_rise o.flat.procs u.procs;
          ahead = falls_unrolled _ (blocks_unrolled is_fall o.flat.procs u.procs);
        });
      }

  way_executed : {r : Queue} (p : Proc) (left : List Proc) (t : State) → Way r → r.phase ≡ Wave (p ∷ left) → t.finished ≡ false → t ≡ exec scope p.body r.state → Way (executed o.flat o.files r p left)
  way_executed {r} p left t w e f d =
      let v : All IsBare (p ∷ left) = subst (λ x. All IsBare (left_of x)) e w.fits.left in
      way_on w (executed o.flat o.files r p left) (by_phase r (Wave (p ∷ left)) w.alive e) (sym (ap (λ z. z.finished) d) ∙ f)
      (record { pending = woken_comb _ _ o.flat.procs r.pending w.fits.pending; left = All-tail IsBare p left v; ahead = w.fits.ahead })

  -- ---- how far a wave goes

  -- at this act of a block, whose rest has no loops
  pub record InBlock (q : Queue) (rest : List Stm) (from committed : List (List ℕ)) (m : Moment) : Type 0 where
    pub at : IsAt o q rest from committed m
    pub fits : Fits o.flat at.first
    pub bare : All IsUnrolledStm rest

  pub way_of : {q : Queue} {rest : List Stm} {from committed : List (List ℕ)} {m : Moment} → (b : InBlock q rest from committed m) → Way b.at.first
  way_of b = record { comes = b.at.comes; alive = b.at.alive; fits = b.fits }

  abbrev pub ReachStands : Reached → Type 0
  ReachStands (act.Completes q) = Way (record q { phase = Wave [] })
  ReachStands (Calls task q rest from committed) = InBlock q rest from committed (call_at scope task q.state)
  ReachStands (Chooses q rest from committed) = InBlock q rest from committed (choice_at q.state)

  -- in a wave, on the way
  record InOne (committed : List (List ℕ)) (q : Queue) : Type 0 where
    pub way : Way q
    pub wave : InWave o committed q

  -- what is left of a block, of whose log these acts are still to come
  pause_stands : (q r : Queue) (p : Proc) (from committed : List (List ℕ)) (left : List Proc) (before ms : List Moment) (go : Queue → Reached) (x : Pause) → InOne committed r
      → r.phase ≡ Wave (p ∷ left) → from ≡ r.state.values → q.ahead ≡ r.ahead → q.pending ≡ r.pending → moments scope p.body r.state ≡ before ++ ms
      → ((z : Queue) → InOne committed (record z { phase = Wave left }) → ReachStands (go z))
      → Pauses scope ms (exec scope p.body r.state) x → ReachStands (by_pause o.flat o.files q from committed left go x)
  pause_stands q r p from committed left before ms go (Through s) w e b a n l g d =
      let same : executed o.flat o.files r p left ≡ record (with_block o.flat o.files q from s) { phase = Wave left } = rw (b, a, n, d.0.1) refl in
      g (with_block o.flat o.files q from s) (subst (InOne committed) same (record {
        way = way_executed p left s w.way e d.1 d.0.1;
        wave = runs w.wave w.way.alive e;
      }))
  pause_stands q r p from committed left before ms go (AtCall task s rest) w e b a n l g d = record {
    at = record {
      first = r;
      wave = w.wave;
      comes = w.way.comes;
      alive = w.way.alive;
      proc = p;
      left = left;
      next = e;
      began = b;
      running = d.1;
      before = before;
      log = l ∙ ap (λ z. before ++ z) d.0.0;
      leads = d.0.1;
      phase = refl;
      ahead = a;
      pending = n;
    };
    fits = w.way.fits;
    bare = d.2;
  }
  pause_stands q r p from committed left before ms go (AtChoice s rest) w e b a n l g d = record {
    at = record {
      first = r;
      wave = w.wave;
      comes = w.way.comes;
      alive = w.way.alive;
      proc = p;
      left = left;
      next = e;
      began = b;
      running = d.1;
      before = before;
      log = l ∙ ap (λ z. before ++ z) d.0.0;
      leads = d.0.1;
      phase = refl;
      ahead = a;
      pending = n;
    };
    fits = w.way.fits;
    bare = d.2;
  }

  blocks_stand : (committed : List (List ℕ)) (left : List Proc) (q : Queue) → InOne committed (record q { phase = Wave left }) → ReachStands (through_blocks o.flat o.files committed left q)
  blocks_stand committed [] q w = w.way
  blocks_stand committed (p ∷ ps) q w =
      let bare : All IsUnrolledStm (p.body ∷ []) = All-cons IsUnrolledStm p.body [] (All-head IsBare p ps w.way.fits.left) (All-nil IsUnrolledStm) in
      pause_stands q (record q { phase = Wave (p ∷ ps) }) p q.state.values committed ps [] _ (through_blocks o.flat o.files committed ps) _ w refl refl refl refl (sym (append-nil (moments scope p.body q.state)))
      (λ z v. blocks_stand committed ps z v) (uptos_pause scope _ _ (p.body ∷ []) q.state bare w.way.alive refl refl)

  -- ---- points

  abbrev pub Stands : Point → Type 0
  Stands (Between q) = Way q × Stage o q
  Stands (Inside q rest from committed) = (m : Moment) × InBlock q rest from committed m × (m.after ≡ q.state)

  abbrev pub Entered : Point → Type 0
  Entered (Between q) = Way q × ((left : List Proc) → q.phase ≡ Wave left → InWave o q.state.values q)
  Entered (Inside q rest from committed) = Stands (Inside q rest from committed)

  no_wave : {left : List Proc} → Ended ≡ Wave left → ⊥
  no_wave e = cc

  enters_same : (q : Queue) (phase : Phase) → q.phase ≡ phase → Entered (Between (entered_by o.flat o.files q phase q.ahead)) → Entered (Between (entered_by o.flat o.files q q.phase q.ahead))
  enters_same q phase e h = subst (λ x. Entered (Between (entered_by o.flat o.files q x q.ahead))) (sym e) h

  risen_values : (q : Queue) → (risen o.flat q).state.values ≡ q.state.values
  risen_values q = at q.state.finished
    where
      at : (b : Bool) → (if b then q else record q { state = record (q.state) { ticks = q.state.ticks + 1; saves = [] }; phase = Wave (blocks is_rise o.flat.procs); ahead = falls (blocks is_fall o.flat.procs) }).state.values ≡ q.state.values
      at true = refl
      at false = refl

  pub entered_values : (q : Queue) (ahead : List (List Proc)) → (entered_by o.flat o.files q Updated ahead).state.values ≡ q.state.values
  entered_values q [] = risen_values q
  entered_values q (w ∷ ws) = refl

  entered_way : (q : Queue) (ahead : List (List Proc)) → Way q → q.phase ≡ Updated → first_pending o.flat.procs q.pending ≡ None → q.ahead ≡ ahead → Way (entered_by o.flat o.files q Updated ahead)
  entered_way q [] w e n a = way_risen w e n a
  entered_way q (p ∷ ps) w e n a = way_wave p ps w e n a

  stage_enters : (q : Queue) → Way q → Stage o q → Entered (Between (entered_by o.flat o.files q q.phase q.ahead))
  stage_enters q w (at_start e same) =
      subst (λ z. Entered (Between (entered_by o.flat o.files z z.phase z.ahead))) (sym same) (subst Way same w, λ left h. at_zero e refl)
  stage_enters q w (at_end e n) = enters_same q Ended e (w, λ left h. absurd (no_wave (sym e ∙ h)))
  stage_enters q w (at_update e n) = enters_same q Updated e
      (entered_way q q.ahead w e n refl, λ left h. behind w.comes w.alive e n (entered_values q q.ahead))

  enters : (p : Point) → Stands p → Entered (entered o.flat o.files p)
  enters (Between q) s = stage_enters q s.0 s.1
  enters (Inside q rest from committed) s = s

  reach_stands : (p : Point) (left : List Proc) → (queue_at p).phase ≡ Wave left → (state_at p).finished ≡ false → Entered p → ReachStands (reach o.flat o.files p left)
  reach_stands (Between q) left e f s =
      blocks_stand q.state.values left q (subst (λ x. InOne q.state.values (record q { phase = x })) e (record { way = s.0; wave = s.1 left e }))
  reach_stands (Inside q rest from committed) left e f s =
      let b = s.1.at in
      let i = b.phase in
      let same : b.left ≡ left = cc in
      let t = s.2 in
      let log : moments scope b.proc.body b.first.state ≡ (b.before ++ (s.0 ∷ [])) ++ all_moments scope rest q.state =
      b.log ∙ (sym (append_assoc b.before (s.0 ∷ []) (all_moments scope rest (s.0).after)) ∙ ap (λ z. (b.before ++ (s.0 ∷ [])) ++ all_moments scope rest z) t) in
      pause_stands q b.first b.proc from committed left (b.before ++ (s.0 ∷ [])) _ (through_blocks o.flat o.files committed left) _ (record { way = way_of s.1; wave = b.wave })
      (subst (λ x. b.first.phase ≡ Wave (b.proc ∷ x)) same b.next) b.began b.ahead b.pending log
      (λ z v. blocks_stand committed left z v) (uptos_pause scope _ _ rest q.state s.1.bare f refl (ap (exec_all scope rest) (sym t) ∙ b.leads))

  in_state : {q : Queue} {rest : List Stm} {from committed : List (List ℕ)} {m : Moment} (z : State) → InBlock q rest from committed m → InBlock (record q { state = z }) rest from committed m
  in_state z b = record {
    at = record {
      first = b.at.first;
      wave = b.at.wave;
      comes = b.at.comes;
      alive = b.at.alive;
      proc = b.at.proc;
      left = b.at.left;
      next = b.at.next;
      began = b.at.began;
      running = b.at.running;
      before = b.at.before;
      log = b.at.log;
      leads = b.at.leads;
      phase = b.at.phase;
      ahead = b.at.ahead;
      pending = b.at.pending;
    };
    fits = b.fits;
    bare = b.bare;
  }

  did_stands : (m : Reached) (p : Point) → ReachStands m → Did o.flat o.files m p → Stands p
  did_stands (act.Completes q) p s d =
      let w : Way (wave_ended (record q { phase = Wave [] })) = way_ended s refl in
      let c : Calmed (wave_ended q) d.0 = calms_way d.1 w tt in
      subst Stands (sym d.2) (c.way, at_end c.phase c.none)
  did_stands (Calls task q rest from committed) p s d = subst Stands (sym d) (call_at scope task q.state, in_state (called scope task q.state) s, refl)
  did_stands (Chooses q rest from committed) p s d = subst Stands (sym d) (choice_at q.state, in_state (counted q.state) s, refl)

  pub at_ended : {q : Queue} → Stage o q → q.phase ≡ Ended → first_pending o.flat.procs q.pending ≡ None
  at_ended (at_start e same) f = let g = ap (λ z. z.phase) same in let z : ⊥ = cc in absurd z
  at_ended (at_end e n) f = n
  at_ended (at_update e n) f = let z : ⊥ = cc in absurd z

  update_stands : (q r : Queue) → Stands (Between q) → q.phase ≡ Ended → Calms o.flat o.files (updates_done o.flat o.files q) r → Stands (Between r)
  update_stands q r s e c =
      let z : Calmed (updates_done o.flat o.files q) r = calms_way c (way_updated s.0 e (at_ended s.1 e)) tt in
      (z.way, at_update z.phase z.none)

  entered_alive : (p : Point) → Stands p → (state_at p).finished ≡ false → (state_at (entered o.flat o.files p)).finished ≡ false
  entered_alive (Between q) s f = (stage_enters q s.0 s.1).0.alive
  entered_alive (Inside q rest from committed) s f = f

  -- how far the next wave goes from a point
  pub wave_stands : (p : Point) (left : List Proc) → Stands p → (state_at p).finished ≡ false → (queue_at (entered o.flat o.files p)).phase ≡ Wave left → ReachStands (reach o.flat o.files (entered o.flat o.files p) left)
  wave_stands p left s f e = reach_stands (entered o.flat o.files p) left e (entered_alive p s f) (enters p s)

  act_stands : {p p' : Point} → (state_at p).finished ≡ false → Act o.flat o.files p p' → Stands p → Stands p'
  act_stands f (of_wave {p = p} {p' = p'} left e d) s = did_stands _ p' (wave_stands p left s f e) d
  act_stands f (updates {q = q} {r = r} e c) s = update_stands q r s e c

  first_way : (s : Option Snapshot) → o.resume ≡ s → Way (first_queue o s)
  first_way None e = record { comes = subst (λ z. Comes o (first_queue o z)) e begins; alive = refl; fits = (at_first o u quiet None e).fits }
  first_way (Some s) e = record { comes = subst (λ z. Comes o (first_queue o z)) e begins; alive = refl; fits = (at_first o u quiet (Some s) e).fits }

  begins_stands : {s : Option Snapshot} {p : Point} → o.resume ≡ s → Begins o s p → Stands p
  begins_stands e from_nothing = (first_way None e, at_start e refl)
  begins_stands e (from_snapshot {s = s} c) = let z = calms_way c (first_way (Some s) e) tt in (z.way, at_update z.phase z.none)

  pub after_stands : {c : ℕ} {p : Point} → After o c p → Stands p
  after_stands (act.begins b) = begins_stands refl b
  after_stands (acts x f a) = act_stands f a (after_stands x)

  -- ---- what follows of a point

  pub between : {c : ℕ} (q : Queue) → After o c (Between q) → Comes o q × (q.state.finished ≡ false) × Stage o q
  between q a = let s = after_stands a in (s.0.comes, s.0.alive, s.1)

  pub inside : {c : ℕ} (q : Queue) (rest : List Stm) (from committed : List (List ℕ)) → After o c (Inside q rest from committed) → (m : Moment) × IsAt o q rest from committed m × (m.after ≡ q.state)
  inside q rest from committed a = let s = after_stands a in (s.0, s.1.at, s.2)

  pub before_a_call : {c : ℕ} {task : Task} (q : Queue) (rest : List Stm) (from committed : List (List ℕ)) → Before o c task (Inside q rest from committed) → IsAt o q rest from committed (call_at scope task q.state)
  before_a_call q rest from committed b = at b refl
    where
      at : {c : ℕ} {task : Task} {x : Point} → Before o c task x → x ≡ Inside q rest from committed → IsAt o q rest from committed (call_at scope task q.state)
      at (act.before {p = p} task r more old first a n) e =
          let w = subst ReachStands n.next (wave_stands p n.left (after_stands a) n.alive n.in_wave) in
          let same : (r ≡ q) × (more ≡ rest) × (old ≡ from) × (first ≡ committed) = (cc, cc, cc, cc) in
          rw (sym same.0, sym same.1, sym same.2, sym same.3) w.at

  pub wave_comes : {c : ℕ} (p : Point) (left : List Proc) (q : Queue) → After o c p → (state_at p).finished ≡ false → (queue_at (entered o.flat o.files p)).phase ≡ Wave left
      → reach o.flat o.files (entered o.flat o.files p) left ≡ act.Completes q → Comes o (wave_ended q) × (q.state.finished ≡ false)
  wave_comes p left q a f e r = let w = subst ReachStands r (wave_stands p left (after_stands a) f e) in ((way_ended w refl).comes, w.alive)

  pub update_comes : {c : ℕ} (q : Queue) → After o c (Between q) → q.phase ≡ Ended → Comes o (updates_done o.flat o.files q)
  update_comes q a e = let s = after_stands a in (way_updated s.0 e (at_ended s.1 e)).comes

  pub choice_running : {c : ℕ} (p : Point) (left : List Proc) (q : Queue) (rest : List Stm) (from committed : List (List ℕ)) → After o c p → (state_at p).finished ≡ false
      → (queue_at (entered o.flat o.files p)).phase ≡ Wave left → reach o.flat o.files (entered o.flat o.files p) left ≡ Chooses q rest from committed → q.state.finished ≡ false
  choice_running p left q rest from committed a f e r = let w = subst ReachStands r (wave_stands p left (after_stands a) f e) in w.at.running
