-- A cycle of a design's table is one act, or comes to the trap of a call; and serving the trap is the act.
use Rattle.std.proofs.Common.{◌≡◌, ℕ, suc, false, List, [], ◌∷◌, refl, sym, ◌∙◌, ap, subst, ◌⊎◌, inl, inr}
use Rattle.std.specs.Prelude.{◌≢◌, All}
use Rattle.vl_design.specs.Syntax.{Task, Stm, Proc, Flat}
use Rattle.vl_design.specs.State.{State, counted}
use Rattle.vl_design.specs.Tasks.{called}
use Rattle.vl_design.specs.Functions.{scope_of}
use Rattle.vl_design.specs.Queue as queue
use Rattle.vl_design.specs.Queue.{Queue, Phase, Ended, Updated, is_rise, is_fall, with_updates, wave_ended, updates_done}
use Rattle.vl_design.specs.Alone.{Origin, risen, blocks, falls}
use Rattle.vl_design.specs.Acts.{Point, Between, Inside, state_at, committed_at, queue_at, uptos, entered, entered_by, Reached, Completes, Calls, Chooses, reach, Did, of_wave, updates, After, acts, NextIs, Before, before}
use Rattle.vl_design.specs.Laws.{IsUnrolledStm, IsUnrolled}
use Rattle.vl_design.proofs.OncePerAct.{after_once}
use Rattle.sub_nodes.specs.Nodes.{Segment, still, rising, WayOn, Go, Branch, Switch, Commit, Table}
use Rattle.sub_nodes.specs.Implements.{Impls, bodies, behind_rise, IsWave, IsTableOf}
use Rattle.sub_nodes.specs.Cycles.{Stage, ticked, segment_done, settled, goes_on, cycled, cycle, served, served_by}
use Rattle.sub_nodes.specs.Stands.{Begins, Updates, GoesBetween, Stands, StandsAtTrap, AreNets}
use Rattle.sub_nodes.proofs.Steps.{Leads, step}
use Rattle.sub_nodes.proofs.Unrolled.{statements, run_unrolled}
use Rattle.sub_nodes.proofs.Acts.{left_of, as_pause, InWave, reach_is, reach_in}

-- behind a rise's wave
rise_updates : (d : Flat) (T : Table) (ps : List Proc) → IsWave T.nodes rising (blocks is_rise d.procs) T.rise (behind_rise ps T.rise.first T.fall.first)
    → (ps ≢ [] → IsWave T.nodes still ps T.fall T.rise.first) → Updates T (falls ps) T.rise.update
rise_updates d T [] w f = (T.rise.first, w.updates, refl)
rise_updates d T (p ∷ ps) w f =
    let differs : ◌≢◌ {A = List Proc} (p ∷ ps) [] = λ e. cc in
    let v = f differs in
    (T.fall.first, w.updates, (T.fall.update, v.runs, (T.rise.first, v.updates, refl)))

-- where a cycle leads after c acts: act c + 1 is done, and is no call; or it is a call, and the trap is right before it
abbrev pub Stepped : Origin → Table → ℕ → Stage → Type 0
Stepped o T c i =
    ((p : Point) × After o (suc c) p × Stands T i p × ((task : Task) (r : Point) → Before o (suc c) task r → ⊥))
    ⊎ ((task : Task) × (p : Point) × Before o (suc c) task p × StandsAtTrap T task i p)

module _ (o : Origin) (T : Table) (nets : State → List (List ℕ)) (n : AreNets o nets) where
  -- the next act is no call
  abbrev NoCall : ℕ → Type 0
  NoCall c = (task : Task) (r : Point) → Before o c task r → ⊥

  no_call : {c : ℕ} {p : Point} → After o c p → ((task : Task) (q : Queue) (rest : List Stm) (from committed : List (List ℕ)) → NextIs o p task q rest from committed → ⊥) → NoCall (suc c)
  no_call {p = p} x f _ _ (before {p = w} task q rest from committed y m) =
      let same : w ≡ p = after_once o y x in
      f task q rest from committed (subst (λ z. NextIs o z task q rest from committed) same m)

  in_wave : {c : ℕ} {p : Point} (left : List Proc) (r : Reached) → After o c p → (queue_at (entered o.flat o.files p)).phase ≡ queue.Wave left → reach o.flat o.files (entered o.flat o.files p) left ≡ r
      → ((task : Task) (q : Queue) (rest : List Stm) (from committed : List (List ℕ)) → r ≡ Calls task q rest from committed → ⊥) → NoCall (suc c)
  in_wave {p = p} left r x ph e f = no_call x (λ task q rest from committed m. (let i = m.in_wave in
      let same : m.left ≡ left = cc in
      f task q rest from committed (sym e ∙ subst (λ l. reach o.flat o.files (entered o.flat o.files p) l ≡ Calls task q rest from committed) same m.next)))

  completes : {q : Queue} (task : Task) (r : Queue) (rest : List Stm) (from committed : List (List ℕ)) → Completes q ≡ Calls task r rest from committed → ⊥
  completes task r rest from committed e = cc

  chooses : {q : Queue} {rest : List Stm} {from committed : List (List ℕ)} (task : Task) (r : Queue) (more : List Stm) (old first : List (List ℕ)) → Chooses q rest from committed ≡ Calls task r more old first → ⊥
  chooses task r more old first e = cc

  -- behind the segment of a node
  wave_goes_on : {c : ℕ} {p : Point} (left : List Proc) (u : ℕ) (ahead : List (List Proc)) (kept : List (List ℕ)) (s : State) (on : WayOn) (r : Reached) → After o c p → (state_at p).finished ≡ false
      → (queue_at (entered o.flat o.files p)).phase ≡ queue.Wave left → reach o.flat o.files (entered o.flat o.files p) left ≡ r → InWave ahead kept r → Updates T ahead u
      → Leads T.nodes u (scope_of o.flat o.files) on s (as_pause r) → Stepped o T c (goes_on o.flat o.files nets on s kept)
  wave_goes_on {c} {p} left u ahead kept s (Commit m) (Completes q) x f ph e w up l =
      let calm = n.ended c p left q x f ph e in
      let z : Point = Between (record (wave_ended q) { state = settled o.flat o.files nets (wave_ended q).state; pending = calm.0 }) in
      inl (
        z,
        acts x f (of_wave left ph (subst (λ r. Did o.flat o.files r z) (sym e) (_, calm.1, refl))),
        record { state = ap (λ t. settled o.flat o.files nets (counted t)) l.0; committed = ap (λ t. nets (counted t)) l.0; goes = subst (λ a. Updates T a m) (sym w) (subst (λ k. Updates T ahead k) (sym l.1) up) },
        in_wave left (Completes q) x ph e completes,
      )
  wave_goes_on left u ahead kept s (Go m) (Calls task q rest from committed) x f ph e w up l =
      inr (
        task,
        Inside q rest from committed,
        before task q rest from committed x (record { left = left; alive = f; in_wave = ph; next = e }),
        record { to = l.1.0; state = l.0; committed = w.2; trap = l.1.1; goes = (left_of q.phase, w.0, (u, l.1.2, subst (λ a. Updates T a u) (sym w.1) up)) },
      )
  wave_goes_on left u ahead kept s (Branch t m k) (Chooses q rest from committed) x f ph e w up l =
      let z : Point = Inside (record q { state = counted q.state }) rest from committed in
      inl (
        z,
        acts x f (of_wave left ph (subst (λ r. Did o.flat o.files r z) (sym e) refl)),
        record { state = ap counted l.0; committed = w.2; goes = (left_of q.phase, w.0, (u, l.1, subst (λ a. Updates T a u) (sym w.1) up)) },
        in_wave left (Chooses q rest from committed) x ph e chooses,
      )
  wave_goes_on left u ahead kept s (Switch t ways other) (Chooses q rest from committed) x f ph e w up l =
      let z : Point = Inside (record q { state = counted q.state }) rest from committed in
      inl (
        z,
        acts x f (of_wave left ph (subst (λ r. Did o.flat o.files r z) (sym e) refl)),
        record { state = ap counted l.0; committed = w.2; goes = (left_of q.phase, w.0, (u, l.1, subst (λ a. Updates T a u) (sym w.1) up)) },
        in_wave left (Chooses q rest from committed) x ph e chooses,
      )
  wave_goes_on left u ahead kept s (Go m) (Completes q) x f ph e w up l = absurd l
  wave_goes_on left u ahead kept s (Branch t m k) (Completes q) x f ph e w up l = absurd l
  wave_goes_on left u ahead kept s (Switch t ways other) (Completes q) x f ph e w up l = absurd l
  wave_goes_on left u ahead kept s (Commit m) (Calls task q rest from committed) x f ph e w up l = absurd l
  wave_goes_on left u ahead kept s (Branch t m k) (Calls task q rest from committed) x f ph e w up l = absurd l
  wave_goes_on left u ahead kept s (Switch t ways other) (Calls task q rest from committed) x f ph e w up l = absurd l
  wave_goes_on left u ahead kept s (Commit m) (Chooses q rest from committed) x f ph e w up l = absurd l
  wave_goes_on left u ahead kept s (Go m) (Chooses q rest from committed) x f ph e w up l = absurd l

  -- in a wave: z is the point with its next wave begun
  wave_steps : {c : ℕ} {p : Point} (i : Stage) (z : Point) (left : List Proc) (g : Segment) (u : ℕ) → IsUnrolled o.flat → After o c p → (state_at p).finished ≡ false → entered o.flat o.files p ≡ z → (queue_at z).phase ≡ queue.Wave left
      → segment_done (scope_of o.flat o.files) g i.state ≡ state_at z → i.committed ≡ committed_at z → Impls T.nodes u (statements z left) g i.node → Updates T (queue_at z).ahead u → Stepped o T c (cycle o.flat o.files nets T.nodes i)
  wave_steps {c} {p} i z left g u unrolled x f woke ph st cm h up =
      let scope = scope_of o.flat o.files in
      let at : (queue_at (entered o.flat o.files p)).phase ≡ queue.Wave left = ap (λ w. (queue_at w).phase) woke ∙ ph in
      let whole = subst (λ w. All IsUnrolledStm (statements w left)) woke (run_unrolled o unrolled x left at) in
      let s = step T.nodes u scope i.state (statements z left) g i.node whole h in
      let there = ap (uptos scope (statements z left)) st ∙ reach_is o.flat o.files z left in
      let leads = subst (Leads T.nodes u scope s.on (segment_done scope s.segment i.state)) there s.leads in
      subst (λ w. Stepped o T c (cycled o.flat o.files nets w i)) (sym s.there)
      (wave_goes_on left u (queue_at z).ahead i.committed (segment_done scope s.segment i.state) s.on (reach o.flat o.files z left) x f at (ap (λ w. reach o.flat o.files w left) woke) (subst (λ v. InWave (queue_at z).ahead v (reach o.flat o.files z left)) (sym cm) (reach_in o.flat o.files z left)) up leads)

  -- from a point between the events of a queue
  between_steps : {c : ℕ} (i : Stage) (q : Queue) (phase : Phase) (ahead : List (List Proc)) → IsUnrolled o.flat → IsTableOf o.flat T → After o c (Between q) → q.state.finished ≡ false → q.phase ≡ phase → q.ahead ≡ ahead
      → i.state ≡ q.state → i.committed ≡ q.state.values → GoesBetween T phase ahead i.node → Stepped o T c (cycle o.flat o.files nets T.nodes i)
  between_steps i q (queue.Wave left) ahead unrolled t x f ph a st cm g =
      let woke : entered o.flat o.files (Between q) ≡ Between q = ap (λ w. Between (entered_by o.flat o.files q w q.ahead)) ph in
      wave_steps i (Between q) left still g.0 unrolled x f woke ph st cm g.1 (subst (λ w. Updates T w g.0) (sym a) g.2)
  between_steps {c} i q Ended ahead unrolled t x f ph a st cm g =
      let calm = n.updated c q x f ph in
      let z : Queue = record (updates_done o.flat o.files q) { state = settled o.flat o.files nets (updates_done o.flat o.files q).state; pending = calm.0 } in
      let none : NoCall (suc c) = no_call x (λ task r rest from committed m. (let woke : entered o.flat o.files (Between q) ≡ Between q = ap (λ w. Between (entered_by o.flat o.files q w q.ahead)) ph in let k : queue.Wave m.left ≡ Ended = sym m.in_wave ∙ (ap (λ w. (queue_at w).phase) woke ∙ ph) in cc)) in
      subst (λ w. Stepped o T c (cycled o.flat o.files nets w i)) (sym g.1)
      (inl (Between z, acts x f (updates ph calm.1), record { state = ap (λ s. settled o.flat o.files nets (counted (with_updates o.flat.rows s))) st; committed = ap (λ s. nets (counted (with_updates o.flat.rows s))) st; goes = subst (λ w. Begins T w g.0) (sym a) g.2 }, none))
  between_steps i q Updated [] unrolled t x f ph a st cm g =
      let r : Queue = record q { state = ticked q.state; phase = queue.Wave (blocks is_rise o.flat.procs); ahead = falls (blocks is_fall o.flat.procs) } in
      let same : risen o.flat q ≡ r = rw f refl in
      let woke : entered o.flat o.files (Between q) ≡ Between r = ap (λ w. Between (entered_by o.flat o.files q w q.ahead)) ph ∙ (ap (λ w. Between (entered_by o.flat o.files q Updated w)) a ∙ ap Between same) in
      wave_steps i (Between r) (blocks is_rise o.flat.procs) rising T.rise.update unrolled x f woke refl (ap ticked st) cm
      (subst (λ m. Impls T.nodes T.rise.update (bodies (blocks is_rise o.flat.procs)) rising m) (sym g) t.rise.runs) (rise_updates o.flat T (blocks is_fall o.flat.procs) t.rise t.fall)
  between_steps i q Updated (w ∷ ws) unrolled t x f ph a st cm g =
      let r : Queue = record q { phase = queue.Wave w; ahead = ws } in
      let woke : entered o.flat o.files (Between q) ≡ Between r = ap (λ v. Between (entered_by o.flat o.files q v q.ahead)) ph ∙ ap (λ v. Between (entered_by o.flat o.files q Updated v)) a in
      wave_steps i (Between r) w still g.0 unrolled x f woke refl st cm g.1 g.2

  pub cycle_steps : {c : ℕ} {p : Point} (i : Stage) → IsUnrolled o.flat → IsTableOf o.flat T → After o c p → (state_at p).finished ≡ false → Stands T i p → Stepped o T c (cycle o.flat o.files nets T.nodes i)
  cycle_steps {p = Between q} i unrolled t x f s = between_steps i q q.phase q.ahead unrolled t x f refl refl s.state s.committed s.goes
  cycle_steps {p = Inside q rest from committed} i unrolled t x f s =
      wave_steps i (Inside q rest from committed) s.goes.0 still s.goes.2.0 unrolled x f refl s.goes.1 s.state s.committed s.goes.2.1 s.goes.2.2

module _ (o : Origin) (T : Table) where
  pub serve_steps : {c : ℕ} {task : Task} {p : Point} (i : Stage) → Before o c task p → StandsAtTrap T task i p → (r : Point) × After o c r × Stands T (served (scope_of o.flat o.files) T.nodes i) r
  serve_steps i (before task q rest from committed x m) s =
      let scope = scope_of o.flat o.files in
      let z : Point = Inside (record q { state = called scope task q.state }) rest from committed in (
        z,
        acts x m.alive (of_wave m.left m.in_wave (subst (λ r. Did o.flat o.files r z) (sym m.next) refl)),
        subst (λ w. Stands T (served_by scope w i) z) (sym s.trap) (record { state = ap (called scope task) s.state; committed = s.committed; goes = s.goes }),
      )
