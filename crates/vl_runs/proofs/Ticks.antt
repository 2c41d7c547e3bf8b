-- From every steady queue a run settles, or finishes.
use Rattle.std.proofs.Common.{◌≡◌, ℕ, ◌+◌, ◌<◌, Bool, true, false, List, [], ◌∷◌, length, Some, None, refl, sym, ap, ◌∙◌, subst, arith}
use Rattle.std.specs.Prelude.{◌||◌, ◌⊎◌, ◌==◌, pos, slice_index, if◌then◌else◌}
use mathlib.Core.Logic.{inl, inr}
use Rattle.vl_paths.specs.vl_base.specs.declared.files.File.{File}
use Rattle.vl_paths.specs.vl_base.specs.Selects.{bit_of}
use Rattle.vl_paths.specs.vl_design.specs.Syntax.{Stm, Proc, Flat}
use Rattle.vl_paths.specs.vl_design.specs.Value.{words_of}
use Rattle.vl_paths.specs.vl_design.specs.State.{State, counted, all_updated}
use Rattle.vl_paths.specs.vl_design.specs.Exec.{exec}
use Rattle.vl_paths.specs.vl_design.specs.Functions.{scope_of}
use Rattle.vl_paths.specs.vl_design.specs.Queue as real
use Rattle.vl_paths.specs.vl_design.specs.Queue.{Queue, Phase, Wave, Ended, Updated, changed, proc_at, next, next_event, next_phase, moved, wave_ended, updates_done, executed, with_updates}
use Rattle.vl_paths.specs.vl_design.specs.Alone.{Settles, rests, goes}
use Rattle.vl_paths.specs.vl_design.specs.Laws.{IsFine}
use Rattle.vl_paths.specs.vl_design.proofs.Kept.{OfUpdates, exec_keeps, updates_keep}
use Rattle.vl_paths.specs.Bits.{Bit}
use Rattle.vl_paths.specs.Graph.{drives}
use Rattle.vl_paths.proofs.Ways.{either, and_true, or_left, or_right}
use Rattle.vl_runs.specs.Queue.{woken, is_pending}
use Rattle.vl_runs.proofs.Logic.{never}
use Rattle.vl_runs.proofs.Pending.{woken_length, woken_at}
use Rattle.vl_runs.proofs.Settle as S
use Rattle.vl_runs.specs.NetsOfSettle.{Place, bit_at, is_memory, comb_at, run, IsSolved}
use Rattle.vl_runs.specs.Checked.{IsOrder}
use Rattle.vl_runs.specs.Runs.{with_values, IsAtRest}
use Rattle.vl_runs.proofs.Steady.{IsApart, IsAccepted, drives_place, reads_place, wakes, Laws, AreApart, AreWaves, OfPhase, IsSteady}
use Rattle.vl_runs.proofs.Fine.{exec_fine, updates_fine}
use Rattle.vl_runs.proofs.Instance.{lawful}
use Rattle.vl_runs.proofs.Timeless.{exec_alike}
use Rattle.vl_runs.proofs.Delayed.{exec_stays}
use Rattle.vl_runs.proofs.Checks.{itself}
use Rattle.vl_runs.proofs.Calming.{real_woken, woken_only, IsBehind, next_behind, Calming, calming}

module _ (d : Flat) (files : List File) (acc : IsAccepted d) where
  -- ---- solved processes stay solved

  -- the run of a process depends on the values alone
  pub same_run : (i : ℕ) (s t : State) → s.finished ≡ false → t.finished ≡ false → (v : List (List ℕ)) → run d files s i v ≡ run d files t i v
  same_run i s t f g v = go (comb_at d i) refl
    where
      go : (b : Bool) → comb_at d i ≡ b → (if b then (exec (scope_of d files) (proc_at d i).body (record s { values = v })).values else v) ≡ (if b then (exec (scope_of d files) (proc_at d i).body (record t { values = v })).values else v)
      go true e = (exec_alike (scope_of d files) (is_memory d.rows) (proc_at d i).body (acc.nets i e) (acc.timeless i e) (record s { values = v }) (record t { values = v }) (record { values = refl; alive = f; too = g })).values
      go false e = refl

  -- what reads and drives the same stays solved
  pub still : (i : ℕ) (s t : State) → s.finished ≡ false → t.finished ≡ false → IsFine d.rows s.values → IsFine d.rows t.values →
      ((b : Place) → reads_place d i b ≡ true → bit_at s.values b ≡ bit_at t.values b) → ((b : Place) → drives_place d i b ≡ true → bit_at s.values b ≡ bit_at t.values b) → IsSolved d files s i → IsSolved d files t i
  still i s t f g fs ft read driven solved =
      let laws : Laws d files s = lawful d files acc s f in
      same_run i t s g f t.values ∙ S.stays laws i s.values t.values fs ft (λ b r. sym (read b r)) (λ b k. sym (driven b k)) solved

  -- a queue stays steady over what changes no driven bit
  after : (q : Queue) (t : State) (ph : Phase) → IsSteady d files q → q.state.finished ≡ false → t.finished ≡ false → IsFine d.rows t.values →
      ((i : ℕ) (b : Place) → drives_place d i b ≡ true → bit_at q.state.values b ≡ bit_at t.values b) →
      ((i : ℕ) (x : Bit) → drives d i x ≡ true → OfUpdates (λ k. k == x.signal) t.later) → OfPhase d ph → IsSteady d files (moved (scope_of d files) d.procs q t ph q.pending)
  after q t ph s f g fine kept later of_phase = record {
    ready = record {
      fine = fine;
      many = ap length flags ∙ woken_length w 0 q.pending ∙ s.ready.many;
      only = λ i h. elim (woken_only w 0 q.pending i (subst (λ bs. is_pending bs i ≡ true) flags h)) [
        | inl j ↦ s.ready.only i j
        | inr j ↦ (and_true (comb_at d i) _ (subst (λ m. w m ≡ true) (from_none i) j)).0
      ];
      each = λ i l. each i l (s.ready.each i l) (either (w i));
    };
    later = later;
    phase = of_phase;
    ahead = s.ahead;
  }
    where
      w : ℕ → Bool
      w = wakes d files q.state.values t.values

      from_none : (i : ℕ) → 0 + i ≡ i
      from_none i = omega arith

      flags : real.woken (scope_of d files) (changed q.state.values t.values) d.procs q.pending ≡ woken (wakes d files q.state.values t.values) 0 q.pending
      flags = real_woken (scope_of d files) (changed q.state.values t.values) (wakes d files q.state.values t.values) d.procs q.pending 0 s.ready.many (λ j. rw (from_none j) refl)

      flag : (i : ℕ) → i < length d.procs → is_pending (real.woken (scope_of d files) (changed q.state.values t.values) d.procs q.pending) i ≡ (is_pending q.pending i || w i)
      flag i l = ap (λ bs. is_pending bs i) flags ∙ woken_at w 0 q.pending i (omega (arith, l, s.ready.many)) ∙ ap (λ m. is_pending q.pending i || w m) (from_none i)

      each : (i : ℕ) → i < length d.procs → (is_pending q.pending i ≡ true) ⊎ IsSolved d files q.state i → (w i ≡ true) ⊎ (w i ≡ false) →
          (is_pending (real.woken (scope_of d files) (changed q.state.values t.values) d.procs q.pending) i ≡ true) ⊎ IsSolved d files t i
      each i l (inl p) y = inl (flag i l ∙ or_left (is_pending q.pending i) (w i) p)
      each i l (inr p) (inl y) = inl (flag i l ∙ or_right (is_pending q.pending i) (w i) y)
      each i l (inr p) (inr y) =
          let laws : Laws d files q.state = lawful d files acc q.state f in
          inr (still i q.state t f g s.ready.fine fine (λ b r. laws.asleep q.state.values t.values i y b r) (kept i) p)

  of_words : (v w : List (List ℕ)) (b : Place) → words_of v b.0.signal ≡ words_of w b.0.signal → bit_at v b ≡ bit_at w b
  of_words v w b e = ap (λ ws. bit_of (slice_index ws b.1) (pos b.0.place)) e

  -- a block keeps each driven bit
  pub block_keeps : (a : Stm) → IsApart d a → (s : State) → (i : ℕ) (b : Place) → drives_place d i b ≡ true → bit_at s.values b ≡ bit_at (exec (scope_of d files) a s).values b
  block_keeps a k s i b h = of_words s.values (exec (scope_of d files) a s).values b (exec_keeps (λ k. k == b.0.signal) b.0.signal (itself b.0.signal) (scope_of d files) a (k i b.0 h) s)

  -- a block
  pub after_block : (q : Queue) (p : Proc) (ps : List Proc) → IsSteady d files q → IsApart d p.body → AreApart d ps → q.state.finished ≡ false →
      (exec (scope_of d files) p.body q.state).finished ≡ false → IsSteady d files (executed d files q p ps)
  after_block q p ps s k ks f g = after q (exec (scope_of d files) p.body q.state) (Wave ps) s f g
      (exec_fine d files p.body q.state s.ready.fine)
      (block_keeps p.body k q.state)
      (λ i x h. exec_stays (λ k. k == x.signal) (scope_of d files) p.body (k i x h) q.state (s.later i x h))
      ks

  -- the update
  pub after_update : (q : Queue) → IsSteady d files q → q.state.finished ≡ false → IsSteady d files (updates_done d files q)
  after_update q s f = after q (counted (with_updates d.rows q.state)) Updated s f f
      (updates_fine d q.state s.ready.fine)
      (λ i b h. of_words q.state.values (all_updated d.rows q.state.values q.state.later) b (updates_keep (λ k. k == b.0.signal) b.0.signal (itself b.0.signal) d.rows q.state.later (s.later i b.0 h) q.state.values))
      (λ i x h. tt)
      tt

  -- other counts, ticks and answers
  pub with_state : (q r : Queue) → IsSteady d files q → q.state.finished ≡ false → r.state.finished ≡ false → q.state.values ≡ r.state.values → q.state.later ≡ r.state.later → q.pending ≡ r.pending →
      OfPhase d r.phase → AreWaves d r.ahead → IsSteady d files r
  with_state q r s f g e l p ph a = record {
    ready = record {
      fine = subst (IsFine d.rows) e s.ready.fine;
      many = ap length (sym p) ∙ s.ready.many;
      only = λ i h. s.ready.only i (subst (λ bs. is_pending bs i ≡ true) (sym p) h);
      each = λ i m. elim (s.ready.each i m) [ inl h ↦ inl (subst (λ bs. is_pending bs i ≡ true) p h) | inr h ↦ inr (solved i h) ];
    };
    later = λ i x h. subst (OfUpdates (λ k. k == x.signal)) l (s.later i x h);
    phase = ph;
    ahead = a;
  }
    where
      solved : (i : ℕ) → IsSolved d files q.state i → IsSolved d files r.state i
      solved i h = subst (λ v. run d files r.state i v ≡ v) e (same_run i r.state q.state g f q.state.values ∙ h)

  -- ---- a tick, by what is left of it

  module _ (order : List ℕ) (o : IsOrder d order) where
    pub record Rested (q : Queue) : Type 0 where
      pub r : Queue
      pub settles : Settles d files q r
      pub rest : r.state.finished ≡ false → IsAtRest d files r

    pub stopped : (q : Queue) → q.state.finished ≡ true → Rested q
    stopped q e = record { r = q; settles = rests (ap (λ b. if b then None else next_event d files q q.phase) e); rest = λ f. never e f }

    further : (q r : Queue) → next d files q ≡ Some r → Rested r → Rested q
    further q r e x = record { r = x.r; settles = goes e x.settles; rest = x.rest }

    unless_stopped : (q : Queue) → (q.state.finished ≡ false → Rested q) → Rested q
    unless_stopped q f = elim (either q.state.finished) [ inl e ↦ stopped q e | inr e ↦ f e ]

    at_event : (q : Queue) (ph : Phase) → q.state.finished ≡ false → q.phase ≡ ph → next d files q ≡ next_event d files q ph
    at_event q ph f e = ap (λ b. if b then None else next_event d files q q.phase) f ∙ ap (next_event d files q) e

    calmed_steady : (q : Queue) → IsSteady d files q → (c : Calming d files acc order o q) → IsSteady d files (with_values q c.calmed.values c.calmed.pending)
    calmed_steady q s c = record { ready = c.ready; later = s.later; phase = s.phase; ahead = s.ahead }

    calmed_next : (q : Queue) → q.state.finished ≡ false → IsBehind q.phase → (c : Calming d files acc order o q) →
        next d files (with_values q c.calmed.values c.calmed.pending) ≡ next_phase d files (with_values q c.calmed.values c.calmed.pending) q.phase q.ahead
    calmed_next q f b c = next_behind d files (with_values q c.calmed.values c.calmed.pending) f b None c.calmed.calm.none

    past_calm : (q : Queue) → IsBehind q.phase → (c : Calming d files acc order o q) → Rested (with_values q c.calmed.values c.calmed.pending) → Rested q
    past_calm q b c x = record { r = x.r; settles = c.settles b x.r x.settles; rest = x.rest }

    -- what follows the update where these waves are left
    abbrev Goal : List (List Proc) → Phase → Type 0
    Goal ws ph = (q : Queue) → q.phase ≡ ph → q.ahead ≡ ws → IsSteady d files q → Rested q

    from_end : (ws : List (List Proc)) → Goal ws Updated → Goal ws Ended
    from_end ws tail q e a s = unless_stopped q (λ f.
        let b : IsBehind q.phase = subst IsBehind (sym e) tt in
        let c : Calming d files acc order o q = calming d files acc order o q f s.ready in
        let n : next d files (with_values q c.calmed.values c.calmed.pending) ≡ Some (updates_done d files (with_values q c.calmed.values c.calmed.pending)) =
        calmed_next q f b c ∙ ap (λ ph. next_phase d files (with_values q c.calmed.values c.calmed.pending) ph q.ahead) e in
        past_calm q b c (further _ _ n (tail (updates_done d files (with_values q c.calmed.values c.calmed.pending)) refl a (after_update (with_values q c.calmed.values c.calmed.pending) (calmed_steady q s c) f))))

    wave : (ps : List Proc) (ws : List (List Proc)) → Goal ws Updated → Goal ws (Wave ps)
    wave [] ws tail q e a s = unless_stopped q (λ f.
        further q (wave_ended q) (at_event q (Wave []) f e) (from_end ws tail (wave_ended q) refl a (with_state q (wave_ended q) s f f refl refl refl tt s.ahead)))
    wave (p ∷ ps) ws tail q e a s = unless_stopped q (λ f.
        let k : AreApart d (p ∷ ps) = subst (OfPhase d) e s.phase in
        further q (executed d files q p ps) (at_event q (Wave (p ∷ ps)) f e) (go f k (wave ps ws tail (executed d files q p ps) refl a) (either (exec (scope_of d files) p.body q.state).finished)))
      where
        go : q.state.finished ≡ false → AreApart d (p ∷ ps) → (IsSteady d files (executed d files q p ps) → Rested (executed d files q p ps)) →
            ((exec (scope_of d files) p.body q.state).finished ≡ true) ⊎ ((exec (scope_of d files) p.body q.state).finished ≡ false) → Rested (executed d files q p ps)
        go f k rest (inl g) = stopped (executed d files q p ps) g
        go f k rest (inr g) = rest (after_block q p ps s k.0 k.1 f g)

    waves : (ws : List (List Proc)) → AreWaves d ws → Goal ws Updated
    waves [] k q e a s = unless_stopped q (λ f.
        let b : IsBehind q.phase = subst IsBehind (sym e) tt in
        let c : Calming d files acc order o q = calming d files acc order o q f s.ready in
        let n : next d files (with_values q c.calmed.values c.calmed.pending) ≡ None =
        calmed_next q f b c ∙ ap (λ ph. next_phase d files (with_values q c.calmed.values c.calmed.pending) ph q.ahead) e ∙ ap (next_phase d files (with_values q c.calmed.values c.calmed.pending) Updated) a in
        past_calm q b c (record {
          r = with_values q c.calmed.values c.calmed.pending;
          settles = rests n;
          rest = λ g. record { calm = c.calmed.calm; updated = e; last = a };
        }))
    waves (w ∷ ws) k q e a s = unless_stopped q (λ f.
        let b : IsBehind q.phase = subst IsBehind (sym e) tt in
        let c : Calming d files acc order o q = calming d files acc order o q f s.ready in
        let n : next d files (with_values q c.calmed.values c.calmed.pending) ≡ Some (record (with_values q c.calmed.values c.calmed.pending) { phase = Wave w; ahead = ws }) =
        calmed_next q f b c ∙ ap (λ ph. next_phase d files (with_values q c.calmed.values c.calmed.pending) ph q.ahead) e ∙ ap (next_phase d files (with_values q c.calmed.values c.calmed.pending) Updated) a in
        past_calm q b c (further _ _ n (wave w ws (waves ws k.1) (record (with_values q c.calmed.values c.calmed.pending) { phase = Wave w; ahead = ws }) refl refl
        (with_state (with_values q c.calmed.values c.calmed.pending) (record (with_values q c.calmed.values c.calmed.pending) { phase = Wave w; ahead = ws }) (calmed_steady q s c) f f refl refl refl k.0 k.1))))

    pub rested : (q : Queue) → IsSteady d files q → Rested q
    rested q s = go q.phase refl
      where
        go : (ph : Phase) → q.phase ≡ ph → Rested q
        go (Wave ps) e = wave ps q.ahead (waves q.ahead s.ahead) q e refl s
        go Ended e = from_end q.ahead (waves q.ahead s.ahead) q e refl s
        go Updated e = waves q.ahead s.ahead q e refl s
