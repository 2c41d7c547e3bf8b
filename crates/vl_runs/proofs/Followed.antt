-- The run act by act follows the log of the run by events: behind each act in it, and before each call, it is at a point.
use Rattle.std.proofs.Common.{◌≡◌, ℕ, zero, suc, ◌+◌, Bool, true, false, List, [], ◌∷◌, ◌++◌, Option, Some, None, refl, sym, ◌∙◌, ap, subst, add-one, append-nil, arith, length}
use Rattle.std.specs.Prelude.{All}
use Rattle.std.proofs.lemmas.List.Elements.{All-nil, All-cons, All-head, All-tail}
use Rattle.vl_paths.specs.vl_design.specs.Syntax.{Task, Stm, Proc}
use Rattle.vl_paths.specs.vl_design.specs.Width.{Scope}
use Rattle.vl_paths.specs.vl_design.specs.State.{State, counted}
use Rattle.vl_paths.specs.vl_design.specs.Tasks.{called}
use Rattle.vl_paths.specs.vl_design.specs.Exec.{exec}
use Rattle.vl_paths.specs.vl_design.specs.Functions.{scope_of}
use Rattle.vl_paths.specs.vl_design.specs.Queue.{Queue, Phase, Wave, Ended, Updated, first_pending, evaluated, executed, next_phase, next_pending, next_event, next, is_init, is_rise, is_fall}
use Rattle.vl_paths.specs.vl_design.specs.Snapshots.{Snapshot}
use Rattle.vl_paths.specs.vl_design.specs.Alone.{Origin, start, risen, blocks, falls, first_queue}
use Rattle.vl_paths.specs.vl_design.specs.Acts as act
use Rattle.vl_paths.specs.vl_design.specs.Acts.{Pause, Through, AtCall, AtChoice, uptos, Point, Between, Inside, state_at, queue_at, entered, entered_by, Reached, Calls, by_pause, through_blocks, reach, Calms, calm, Did, Act, of_wave, updates, Begins, from_nothing, from_snapshot, After, acts, Before}
use Rattle.vl_paths.specs.vl_design.specs.Laws.{IsUnrolledStm, IsUnrolled, HasQuietNets}
use Rattle.vl_paths.specs.vl_design.proofs.Running.{some_is}
use Rattle.vl_paths.specs.vl_design.proofs.Resting.{exec_over}
use Rattle.vl_paths.specs.vl_design.proofs.Acting.{left_of}
use Rattle.vl_paths.specs.vl_design.proofs.Counting.{count_is}
use Rattle.vl_paths.specs.vl_design.proofs.Agreeing.{IsBare, Fits, woken_comb, blocks_unrolled, falls_unrolled, body_rests, evaluated_fits, at_first, alive}
use Rattle.vl_runs.proofs.Logic.{never}
use Rattle.vl_runs.specs.Runs as runs
use Rattle.vl_runs.specs.Runs.{Comes}
use Rattle.vl_runs.specs.Log.{Moment, call_at, choice_at, moments, exec_all, all_moments}
use Rattle.vl_runs.specs.Blocks as log
use Rattle.vl_runs.specs.Blocks.{Happens, LogAfter, LogBefore}
use Rattle.vl_runs.proofs.Holding.{all_middle}
use Rattle.vl_runs.proofs.Ticking.{some_next, ended_goes}
use Rattle.vl_runs.proofs.Logging.{Pauses, uptos_pause, none_over, each_counts}

module _ (scope : Scope) where
  all_over : (rest : List Stm) (s : State) → s.finished ≡ true → all_moments scope rest s ≡ []
  all_over [] s h = refl
  all_over (a ∷ rest) s h = ap (λ z. z ++ all_moments scope rest (exec scope a s)) (none_over scope a s h) ∙ (ap (all_moments scope rest) (exec_over scope a s h) ∙ all_over rest s h)

  execs_over : (rest : List Stm) (s : State) → s.finished ≡ true → exec_all scope rest s ≡ s
  execs_over [] s h = refl
  execs_over (a ∷ rest) s h = ap (exec_all scope rest) (exec_over scope a s h) ∙ execs_over rest s h

-- the first and the others of two equal lists
first_is : {m n : Moment} {ms ns : List Moment} → m ∷ ms ≡ n ∷ ns → (m ≡ n) × (ms ≡ ns)
first_is h = (cc, cc)

none_is : {m : Moment} {ms : List Moment} → ◌≡◌ {A = List Moment} [] (m ∷ ms) → ⊥
none_is h = cc

module _ (o : Origin) (u : IsUnrolled o.flat) (quiet : HasQuietNets o.flat) where
  abbrev scope : Scope
  scope = scope_of o.flat o.files

  -- the run act by act is at a point right behind the act; and at one right before it, where it is a call
  record Acted (m : Moment) : Type 0 where
    pub after : (p : Point) × After o m.after.count p × (state_at p ≡ m.after)
    pub before : (task : Task) → m.task ≡ Some task → (p : Point) × Before o m.after.count task p × (state_at p ≡ m.before)

  -- the run act by act is at a point, and comes to this in the wave
  record Coming (n : ℕ) (to : Reached) : Type 0 where
    pub point : Point
    pub left : List Proc
    pub after : After o n point
    pub alive : (state_at point).finished ≡ false
    pub wave : (queue_at (entered o.flat o.files point)).phase ≡ Wave left
    pub reached : reach o.flat o.files (entered o.flat o.files point) left ≡ to

  -- the act is done
  did : {n : ℕ} {to : Reached} → Coming n to → (p : Point) → Did o.flat o.files to p → After o (suc n) p
  did c p d = acts c.after c.alive (of_wave c.left c.wave (subst (λ z. Did o.flat o.files z p) (sym c.reached) d))

  -- ---- in a block that began with the values from, with these processes left behind it

  module _ (from committed : List (List ℕ)) (left : List Proc) (ahead : List (List Proc)) (pending : List Bool) where
    abbrev in_block : State → Phase → Queue
    in_block t phase = record { state = t; phase = phase; ahead = ahead; pending = pending }

    abbrev going : State → Phase → Pause → Reached
    going t phase x = by_pause o.flat o.files (in_block t phase) from committed left (through_blocks o.flat o.files committed left) x

    -- behind the block
    data End (e : State) : Type 0 where
      over : (p : Point) → e.finished ≡ true → After o e.count p → state_at p ≡ e → End e
      on : (t : State) (phase : Phase) → e.finished ≡ false → Coming e.count (going t phase (Through e)) → End e

    record Walked (ms : List Moment) (e : State) : Type 0 where
      pub acted : All Acted ms
      pub end : End e

    -- behind an act, where the rest is still to be done
    abbrev Further : List Moment → State → Type 0
    Further ms e =
        (rest : List Stm) (s : State) → All IsUnrolledStm rest → s.finished ≡ false → all_moments scope rest s ≡ ms → exec_all scope rest s ≡ e →
        (t : State) (phase : Phase) → Coming s.count (going t phase (uptos scope rest s)) → Walked ms e

    behind : (ms : List Moment) (e : State) (rest : List Stm) (s : State) (n : ℕ) → Further ms e → All IsUnrolledStm rest → ms ≡ all_moments scope rest s → exec_all scope rest s ≡ e
        → After o n (Inside (in_block s (Wave left)) rest from committed) → s.count ≡ n → (f : Bool) → s.finished ≡ f → Walked ms e
    behind ms e rest s n g w l d a c true f =
        let same : e ≡ s = sym d ∙ execs_over scope rest s f in
        let p : Point = Inside (in_block s (Wave left)) rest from committed in
        let b : After o s.count p = subst (λ k. After o k p) (sym c) a in
        record {
          acted = subst (All Acted) (sym (l ∙ all_over scope rest s f)) (All-nil Acted);
          end = subst End (sym same) (over p f b refl);
        }
    behind ms e rest s n g w l d a c false f = g rest s w f (sym l) d s (Wave left) (record {
      point = Inside (in_block s (Wave left)) rest from committed;
      left = left;
      after = subst (λ k. After o k (Inside (in_block s (Wave left)) rest from committed)) (sym c) a;
      alive = f;
      wave = refl;
      reached = refl;
    })

    step : (m : Moment) (ms : List Moment) (e : State) (n : ℕ) (t : State) (phase : Phase) (x : Pause) → Further ms e → Pauses scope (m ∷ ms) e x → Coming n (going t phase x) → Walked (m ∷ ms) e
    step m ms e n t phase (Through s) g d c = absurd (none_is (sym d.0.0))
    step m ms e n t phase (AtCall task s rest) g d c =
        let l = first_is d.0.0 in
        let p : Point = Inside (in_block (called scope task s) (Wave left)) rest from committed in
        let a : After o (suc n) p = did c p refl in
        let k : (called scope task s).count ≡ suc n = count_is o u quiet (suc n) p a in
        let w = behind ms e rest (called scope task s) (suc n) g d.2 l.1 d.0.1 a k (called scope task s).finished refl in
        let here : Acted (call_at scope task s) = record {
          after = (p, subst (λ j. After o j p) (sym k) a, refl);
          before = λ other h.
              let same : task ≡ other = some_is h in
              let q : Queue = in_block s (Wave left) in
              let b : Before o (suc n) task (Inside q rest from committed) =
              act.before task q rest from committed c.after (record { left = c.left; alive = c.alive; in_wave = c.wave; next = c.reached }) in
              (Inside q rest from committed, subst (λ j. Before o j other (Inside q rest from committed)) (sym k) (subst (λ y. Before o (suc n) y (Inside q rest from committed)) same b), refl);
        } in
        record { acted = All-cons Acted m ms (subst Acted (sym l.0) here) w.acted; end = w.end }
    step m ms e n t phase (AtChoice s rest) g d c =
        let l = first_is d.0.0 in
        let p : Point = Inside (in_block (counted s) (Wave left)) rest from committed in
        let a : After o (suc n) p = did c p refl in
        let k : (counted s).count ≡ suc n = count_is o u quiet (suc n) p a in
        let w = behind ms e rest (counted s) (suc n) g d.2 l.1 d.0.1 a k (counted s).finished refl in
        let here : Acted (choice_at s) = record {
          after = (p, subst (λ j. After o j p) (sym k) a, refl);
          before = λ other h. let z : ⊥ = cc in absurd z;
        } in
        record { acted = All-cons Acted m ms (subst Acted (sym l.0) here) w.acted; end = w.end }

    no_act : (e : State) (n : ℕ) (t : State) (phase : Phase) (x : Pause) → Pauses scope [] e x → n ≡ e.count → Coming n (going t phase x) → End e
    no_act e n t phase (Through s) d h c =
        let same = d.0.1 in
        on t phase (subst (λ z. z.finished ≡ false) same d.1) (subst (λ z. Coming e.count (going t phase (Through z))) same (subst (λ k. Coming k (going t phase (Through s))) h c))
    no_act e n t phase (AtCall task s rest) d h c = absurd (none_is d.0.0)
    no_act e n t phase (AtChoice s rest) d h c = absurd (none_is d.0.0)

    -- without an act nothing is counted
    uncounted : (rest : List Stm) (s : State) → all_moments scope rest s ≡ [] → s.count ≡ (exec_all scope rest s).count
    uncounted [] s h = refl
    uncounted (a ∷ rest) s h =
        let f = both (moments scope a s) (all_moments scope rest (exec scope a s)) h in
        let e = each_counts scope a s in
        let i = ap length f.0 in
        let c : s.count ≡ (exec scope a s).count = omega (arith, e, i) in
        c ∙ uncounted rest (exec scope a s) f.1
      where
        both : (xs ys : List Moment) → xs ++ ys ≡ [] → (xs ≡ []) × (ys ≡ [])
        both [] ys h = (refl, h)
        both (x ∷ xs) ys h = absurd (none_is (sym h))

    walk : (ms : List Moment) (e : State) → Further ms e
    walk [] e rest s u f l d t phase c = record {
      acted = All-nil Acted;
      end = no_act e s.count t phase _ (uptos_pause scope [] e rest s u f l d) (uncounted rest s l ∙ ap (λ z. z.count) d) c;
    }
    walk (m ∷ ms) e rest s u f l d t phase c = step m ms e s.count t phase _ (walk ms e) (uptos_pause scope (m ∷ ms) e rest s u f l d) c

  -- ---- at a queue

  -- where no process is pending any more, so many acts are done
  abbrev Calmed : Queue → Type 0
  Calmed q = (r : Queue) → Calms o.flat o.files q r → After o q.state.count (Between r)

  -- where the run act by act is while the run by events is at a queue
  data At (q : Queue) : Type 0 where
    stopped : (p : Point) → q.state.finished ≡ true → After o q.state.count p → state_at p ≡ q.state → At q
    in_wave : (committed : List (List ℕ)) (left : List Proc) (phase : Phase) → q.state.finished ≡ false → q.phase ≡ Wave left
        → Coming q.state.count (through_blocks o.flat o.files committed left (record q { phase = phase })) → At q
    at_end : q.state.finished ≡ false → q.phase ≡ Ended → Calmed q → At q
    at_update : q.state.finished ≡ false → q.phase ≡ Updated → Calmed q → At q

  record Stands (q : Queue) : Type 0 where
    pub at : At q
    pub fits : Fits o.flat q

  one_more : (n : ℕ) (p : Point) → After o (suc n) p → After o (n + 1) p
  one_more n p a = subst (λ k. After o k p) (sym (add-one n)) a

  block_walked : (q : Queue) (committed : List (List ℕ)) (b : Proc) (bs : List Proc) (phase : Phase) → q.state.finished ≡ false → q.phase ≡ Wave (b ∷ bs)
      → Coming q.state.count (through_blocks o.flat o.files committed (b ∷ bs) (record q { phase = phase })) → Fits o.flat q
      → Walked q.state.values committed bs q.ahead q.pending (moments scope b.body q.state ++ []) (exec scope b.body q.state)
  block_walked q committed b bs phase f e c g =
      let l : All IsBare (b ∷ bs) = subst (λ x. All IsBare (left_of x)) e g.left in
      walk q.state.values committed bs q.ahead q.pending _ _ (b.body ∷ []) q.state (All-cons IsUnrolledStm b.body [] (All-head IsBare b bs l) (All-nil IsUnrolledStm)) f refl refl q.state phase c

  block_done : (q : Queue) (committed : List (List ℕ)) (b : Proc) (bs : List Proc) → End q.state.values committed bs q.ahead q.pending (exec scope b.body q.state) → At (executed o.flat o.files q b bs)
  block_done q committed b bs (over p f a e) = stopped p f a e
  block_done q committed b bs (on t ph f c) = in_wave committed bs ph f refl c

  wave_next : (q q' : Queue) (committed : List (List ℕ)) (left : List Proc) (phase : Phase) → q.state.finished ≡ false → q.phase ≡ Wave left → Coming q.state.count (through_blocks o.flat o.files committed left (record q { phase = phase }))
      → Fits o.flat q → next_event o.flat o.files q (Wave left) ≡ Some q' → Stands q'
  wave_next q q' committed [] phase f e c g h =
      subst Stands (some_is h) (record {
        at = at_end f refl (λ z s. one_more q.state.count (Between z) (did c (Between z) (z, s, refl)));
        fits = record { pending = g.pending; left = All-nil IsBare; ahead = g.ahead };
      })
  wave_next q q' committed (b ∷ bs) phase f e c g h =
      let l : All IsBare (b ∷ bs) = subst (λ x. All IsBare (left_of x)) e g.left in
      subst Stands (some_is h) (record {
        at = block_done q committed b bs (block_walked q committed b bs phase f e c g).end;
        fits = record { pending = woken_comb _ _ o.flat.procs q.pending g.pending; left = All-tail IsBare b bs l; ahead = g.ahead };
      })

  -- a pending process is evaluated
  evaluation : (q : Queue) (body : Proc) → Fits o.flat q → first_pending o.flat.procs q.pending ≡ Some body → Calmed q → Calmed (evaluated o.flat o.files q body)
  evaluation q body g e a r c = subst (λ n. After o n (Between r)) (sym (body_rests o u quiet q body g e).count) (a r (act.goes e c))

  end_next : (q q' : Queue) (b : Option Proc) → first_pending o.flat.procs q.pending ≡ b → q.state.finished ≡ false → q.phase ≡ Ended → Calmed q → Fits o.flat q → next_pending o.flat o.files q b ≡ Some q' → Stands q'
  end_next q q' None e f ph a g n =
      subst Stands (some_is (subst (λ x. next_phase o.flat o.files q x q.ahead ≡ Some q') ph n)) (record {
        at = at_update f refl (λ r c. one_more q.state.count (Between r) (acts (a q (calm e)) f (updates ph c)));
        fits = record { pending = woken_comb _ _ o.flat.procs q.pending g.pending; left = All-nil IsBare; ahead = g.ahead };
      })
  end_next q q' (Some body) e f ph a g n =
      subst Stands (some_is n) (record {
        at = at_end ((body_rests o u quiet q body g e).finished ∙ f) ph (evaluation q body g e a);
        fits = evaluated_fits o u quiet q body g;
      })

  no_queue : {q : Queue} → ◌≡◌ {A = Option Queue} None (Some q) → ⊥
  no_queue e = cc

  update_next : (q q' : Queue) (b : Option Proc) (ahead : List (List Proc)) → first_pending o.flat.procs q.pending ≡ b → q.ahead ≡ ahead → q.state.finished ≡ false → q.phase ≡ Updated → Calmed q → Fits o.flat q → next_pending o.flat o.files q b ≡ Some q' → Stands q'
  update_next q q' None [] e i f ph a g n =
      let z = subst (λ x. next_phase o.flat o.files q x q.ahead ≡ Some q') ph n in
      absurd (no_queue (subst (λ x. next_phase o.flat o.files q Updated x ≡ Some q') i z))
  update_next q q' None (w ∷ ws) e i f ph a g n =
      let z = subst (λ x. next_phase o.flat o.files q x q.ahead ≡ Some q') ph n in
      let woke = ap (λ x. Between (entered_by o.flat o.files q x q.ahead)) ph ∙ ap (λ x. Between (entered_by o.flat o.files q Updated x)) i in
      let v : All (All IsBare) (w ∷ ws) = subst (All (All IsBare)) i g.ahead in
      subst Stands (some_is (subst (λ x. next_phase o.flat o.files q Updated x ≡ Some q') i z)) (record {
        at = in_wave q.state.values w (Wave w) f refl (record {
          point = Between q;
          left = w;
          after = a q (calm e);
          alive = f;
          wave = ap (λ p. (queue_at p).phase) woke;
          reached = ap (λ p. reach o.flat o.files p w) woke;
        });
        fits = record { pending = g.pending; left = All-head (All IsBare) w ws v; ahead = All-tail (All IsBare) w ws v };
      })
  update_next q q' (Some body) ahead e i f ph a g n =
      subst Stands (some_is n) (record {
        at = at_update ((body_rests o u quiet q body g e).finished ∙ f) ph (evaluation q body g e a);
        fits = evaluated_fits o u quiet q body g;
      })

  next_by : (q : Queue) (r : Option Queue) (phase : Phase) → q.state.finished ≡ false → q.phase ≡ phase → next o.flat o.files q ≡ r → next_event o.flat o.files q phase ≡ r
  next_by q r phase f e n = ap (next_event o.flat o.files q) (sym e) ∙ (sym (alive q.state.finished None _ f) ∙ n)

  at_next : (q q' : Queue) → next o.flat o.files q ≡ Some q' → At q → Fits o.flat q → Stands q'
  at_next q q' n (stopped p f a e) g = absurd (no_queue (rw f at n))
  at_next q q' n (in_wave committed left phase f e c) g = wave_next q q' committed left phase f e c g (next_by q _ (Wave left) f e n)
  at_next q q' n (at_end f e a) g = end_next q q' (first_pending o.flat.procs q.pending) refl f e a g (next_by q _ Ended f e n)
  at_next q q' n (at_update f e a) g = update_next q q' (first_pending o.flat.procs q.pending) q.ahead refl refl f e a g (next_by q _ Updated f e n)

  -- ---- at a boundary

  rises : (q : Queue) (b : Option Proc) (ahead : List (List Proc)) → first_pending o.flat.procs q.pending ≡ b → q.ahead ≡ ahead → q.state.finished ≡ false → q.phase ≡ Updated → Calmed q → Fits o.flat q → next_pending o.flat o.files q b ≡ None → Stands (risen o.flat q)
  rises q None [] e i f ph a g n =
      let t : State = record (q.state) { ticks = q.state.ticks + 1; saves = [] } in
      let r : Queue = record q { state = t; phase = Wave (blocks is_rise o.flat.procs); ahead = falls (blocks is_fall o.flat.procs) } in
      let same = alive q.state.finished q r f in
      let woke = ap (λ x. Between (entered_by o.flat o.files q x q.ahead)) ph ∙ (ap (λ x. Between (entered_by o.flat o.files q Updated x)) i ∙ ap Between same) in
      subst Stands (sym same) (record {
        at = in_wave q.state.values (blocks is_rise o.flat.procs) (Wave (blocks is_rise o.flat.procs)) f refl (record {
          point = Between q;
          left = blocks is_rise o.flat.procs;
          after = a q (calm e);
          alive = f;
          wave = ap (λ p. (queue_at p).phase) woke;
          reached = ap (λ p. reach o.flat o.files p (blocks is_rise o.flat.procs)) woke;
        });
        fits = record {
          pending = g.pending;
          left = blocks_unrolled is_rise o.flat.procs u.procs;
          ahead = falls_unrolled _ (blocks_unrolled is_fall o.flat.procs u.procs);
        };
      })
  rises q None (w ∷ ws) e i f ph a g n =
      let z = subst (λ x. next_phase o.flat o.files q x q.ahead ≡ None) ph n in
      absurd (some_next (subst (λ x. next_phase o.flat o.files q Updated x ≡ None) i z))
  rises q (Some body) ahead e i f ph a g n = absurd (some_next n)

  at_risen : (q : Queue) → next o.flat o.files q ≡ None → At q → Fits o.flat q → Stands (risen o.flat q)
  at_risen q n (stopped p f a e) g = let same : q ≡ risen o.flat q = rw f refl in subst Stands same (record { at = stopped p f a e; fits = g })
  at_risen q n (in_wave committed [] phase f e c) g = absurd (some_next (next_by q _ (Wave []) f e n))
  at_risen q n (in_wave committed (b ∷ bs) phase f e c) g = absurd (some_next (next_by q _ (Wave (b ∷ bs)) f e n))
  at_risen q n (at_end f e a) g = absurd (ended_goes o.flat o.files q (first_pending o.flat.procs q.pending) e (next_by q _ Ended f e n))
  at_risen q n (at_update f e a) g = rises q (first_pending o.flat.procs q.pending) q.ahead refl refl f e a g (next_by q _ Updated f e n)

  begins_nothing : o.resume ≡ None → After o zero (Between (start o.flat))
  begins_nothing e = act.begins (subst (λ x. Begins o x (Between (start o.flat))) (sym e) from_nothing)

  first_stands : (s : Option Snapshot) → o.resume ≡ s → Stands (first_queue o s)
  first_stands None e = record {
    at = in_wave (start o.flat).state.values (blocks is_init o.flat.procs) (Wave (blocks is_init o.flat.procs)) refl refl (record {
      point = Between (start o.flat);
      left = blocks is_init o.flat.procs;
      after = begins_nothing e;
      alive = refl;
      wave = refl;
      reached = refl;
    });
    fits = (at_first o u quiet None e).fits;
  }
  first_stands (Some s) e = record {
    at = at_update refl refl (λ r c. act.begins (subst (λ x. Begins o x (Between r)) (sym e) (from_snapshot c)));
    fits = (at_first o u quiet (Some s) e).fits;
  }

  comes_stands : {q : Queue} → Comes o q → Stands q
  comes_stands runs.begins = first_stands o.resume refl
  comes_stands (runs.goes {q = q} {r = r} c n) = let s = comes_stands c in at_next q r n s.at s.fits
  comes_stands (runs.rises {q = q} c n) = let s = comes_stands c in at_risen q n s.at s.fits

  -- ---- the log

  block_acted : (q : Queue) (b : Proc) (bs : List Proc) → At q → Fits o.flat q → q.state.finished ≡ false → q.phase ≡ Wave (b ∷ bs) → All Acted (moments scope b.body q.state)
  block_acted q b bs (stopped p f a e) g i ph = never f i
  block_acted q b bs (in_wave committed left phase f e c) g i ph =
      let same : left ≡ b ∷ bs = cc in
      let d = subst (λ l. Coming q.state.count (through_blocks o.flat o.files committed l (record q { phase = phase }))) same c in
      subst (All Acted) (append-nil (moments scope b.body q.state)) (block_walked q committed b bs phase f ph d g).acted
  block_acted q b bs (at_end f e a) g i ph = let z : ⊥ = cc in absurd z
  block_acted q b bs (at_update f e a) g i ph = let z : ⊥ = cc in absurd z

  happened : {m : Moment} → Happens o m → Acted m
  happened {m} h =
      let s = comes_stands h.comes in
      all_middle Acted h.before h.behind m (subst (All Acted) h.log (block_acted h.first h.proc h.left s.at s.fits h.alive h.next))

  abbrev Has : ℕ → State → Type 0
  Has c s = (p : Point) × After o c p × (state_at p ≡ s)

  behind_end : (q : Queue) → At q → q.state.finished ≡ false → q.phase ≡ Ended → first_pending o.flat.procs q.pending ≡ None → Has q.state.count q.state
  behind_end q (stopped p f a e) i ph n = never f i
  behind_end q (in_wave committed left phase f e c) i ph n = let z : ⊥ = cc in absurd z
  behind_end q (at_end f e a) i ph n = (Between q, a q (calm n), refl)
  behind_end q (at_update f e a) i ph n = let z : ⊥ = cc in absurd z

  behind_the_update : (q : Queue) → At q → q.state.finished ≡ false → q.phase ≡ Updated → first_pending o.flat.procs q.pending ≡ None → Has q.state.count q.state
  behind_the_update q (stopped p f a e) i ph n = never f i
  behind_the_update q (in_wave committed left phase f e c) i ph n = let z : ⊥ = cc in absurd z
  behind_the_update q (at_end f e a) i ph n = let z : ⊥ = cc in absurd z
  behind_the_update q (at_update f e a) i ph n = (Between q, a q (calm n), refl)

  pub log_after : {c : ℕ} {s : State} → LogAfter o c s → (p : Point) × After o c p × (state_at p ≡ s)
  log_after (log.begins e) = (Between (start o.flat), begins_nothing e, refl)
  log_after (log.in_block h) = (happened h).after
  log_after (log.behind_wave {q = q} c f e n) = behind_end q (comes_stands c).at f e n
  log_after (log.behind_update {q = q} c f e n) = behind_the_update q (comes_stands c).at f e n

  pub log_before : {c : ℕ} {task : Task} {s : State} → LogBefore o c task s → (p : Point) × Before o c task p × (state_at p ≡ s)
  log_before (log.before_call task h e) = (happened h).before task e
