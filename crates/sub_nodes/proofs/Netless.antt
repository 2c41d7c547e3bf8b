-- A design without combinational processes has nothing to settle.
use Rattle.std.proofs.Common.{◌≡◌, ℕ, ◌+◌, Bool, true, false, List, [], ◌∷◌, Option, None, refl, sym, subst}
use Rattle.std.specs.Prelude.{⊤, ◌||◌, ◌&&◌, All, if◌then◌else◌}
use Rattle.std.proofs.lemmas.List.Elements.{All-head, All-tail}
use Rattle.vl_design.specs.vl_base.specs.declared.files.File.{File}
use Rattle.vl_design.specs.Syntax.{Proc, Flat}
use Rattle.vl_design.specs.Width.{Scope}
use Rattle.vl_design.specs.Functions.{scope_of, zeros, fresh}
use Rattle.vl_design.specs.Queue as queue
use Rattle.vl_design.specs.Queue.{Queue, Phase, Ended, Updated, changed, is_comb, is_rise, is_fall, woken, first_pending, wave_ended, updates_done}
use Rattle.vl_design.specs.Turns.{turns_read}
use Rattle.vl_design.specs.Snapshots.{Snapshot}
use Rattle.vl_design.specs.Alone.{Origin, all_comb, resumed, risen, blocks, falls}
use Rattle.vl_design.specs.Acts as act
use Rattle.vl_design.specs.Acts.{Pause, Through, AtCall, AtChoice, uptos, Point, Between, Inside, state_at, queue_at, entered, entered_by, Reached, Completes, Calls, Chooses, with_block, by_pause, through_blocks, reach, Calms, calm, Did, Act, of_wave, updates, Begins, from_nothing, from_snapshot, After, begins, acts}
use Rattle.sub_nodes.specs.Stands.{Settle, AreNets}
use Rattle.sub_nodes.specs.Samples.{no_nets}

abbrev IsOther : Proc → Type 0
IsOther p = is_comb p.kind ≡ false

abbrev NonePending : List Bool → Type 0
NonePending [] = ⊤
NonePending (b ∷ bs) = (b ≡ false) × NonePending bs

none_first : (ps : List Proc) (bs : List Bool) → NonePending bs → first_pending ps bs ≡ None
none_first [] bs h = refl
none_first (p ∷ ps) [] h = refl
none_first (p ∷ ps) (true ∷ bs) h = let z : ⊥ = cc in absurd z
none_first (p ∷ ps) (false ∷ bs) h = none_first ps bs h.1

none_comb : (ps : List Proc) → All IsOther ps → NonePending (all_comb ps)
none_comb [] h = tt
none_comb (p ∷ ps) h = (All-head IsOther p ps h, none_comb ps (All-tail IsOther p ps h))

asleep : (b k r : Bool) → b ≡ false → k ≡ false → (b || (k && r)) ≡ false
asleep true k r h i = h
asleep false true r h i = let z : ⊥ = cc in absurd z
asleep false false r h i = refl

none_woken : (scope : Scope) (p : ℕ → Bool) (ps : List Proc) (bs : List Bool) → All IsOther ps → NonePending bs → NonePending (woken scope p ps bs)
none_woken scope p [] bs h k = tt
none_woken scope p (x ∷ xs) [] h k = tt
none_woken scope p (x ∷ xs) (b ∷ bs) h k =
    (asleep b (is_comb x.kind) (turns_read scope p x.body (fresh (zeros scope.names.rows))) k.0 (All-head IsOther x xs h), none_woken scope p xs bs (All-tail IsOther x xs h) k.1)

abbrev reached_at : Reached → Queue
reached_at (Completes q) = q
reached_at (Calls task q rest from committed) = q
reached_at (Chooses q rest from committed) = q

module _ (d : Flat) (files : List File) (h : All IsOther d.procs) where
  abbrev IsQuiet : Queue → Type 0
  IsQuiet q = NonePending q.pending

  calms_none : {q r : Queue} → Calms d files q r → IsQuiet q → IsQuiet r
  calms_none (calm e) k = k
  calms_none (act.goes {q = q} {p = p} e c) k = let f = none_first d.procs q.pending k in let z : ⊥ = cc in absurd z

  pause_none : (q : Queue) (from committed : List (List ℕ)) (left : List Proc) (go : Queue → Reached) (p : Pause) → IsQuiet q → ((r : Queue) → IsQuiet r → IsQuiet (reached_at (go r))) → IsQuiet (reached_at (by_pause d files q from committed left go p))
  pause_none q from committed left go (Through s) k g = g (with_block d files q from s) (none_woken (scope_of d files) (changed from s.values) d.procs q.pending h k)
  pause_none q from committed left go (AtCall task s rest) k g = k
  pause_none q from committed left go (AtChoice s rest) k g = k

  blocks_none : (committed : List (List ℕ)) (left : List Proc) (q : Queue) → IsQuiet q → IsQuiet (reached_at (through_blocks d files committed left q))
  blocks_none committed [] q k = k
  blocks_none committed (p ∷ ps) q k = pause_none q q.state.values committed ps (through_blocks d files committed ps) (uptos (scope_of d files) (p.body ∷ []) q.state) k (blocks_none committed ps)

  reach_none : (p : Point) (left : List Proc) → IsQuiet (queue_at p) → IsQuiet (reached_at (reach d files p left))
  reach_none (Between q) left k = blocks_none q.state.values left q k
  reach_none (Inside q rest from committed) left k = pause_none q from committed left (through_blocks d files committed left) (uptos (scope_of d files) rest q.state) k (blocks_none committed left)

  risen_none : (q : Queue) → IsQuiet q → IsQuiet (risen d q)
  risen_none q k = at q.state.finished
    where
      r : Queue
      r = record q { state = record (q.state) { ticks = q.state.ticks + 1; saves = [] }; phase = queue.Wave (blocks is_rise d.procs); ahead = falls (blocks is_fall d.procs) }

      at : (b : Bool) → IsQuiet (if b then q else r)
      at true = k
      at false = k

  entered_none : (q : Queue) (phase : Phase) (ahead : List (List Proc)) → IsQuiet q → IsQuiet (entered_by d files q phase ahead)
  entered_none q (queue.Wave left) ahead k = k
  entered_none q Ended ahead k = k
  entered_none q Updated [] k = risen_none q k
  entered_none q Updated (w ∷ ws) k = k

  next_none : (p : Point) → IsQuiet (queue_at p) → IsQuiet (queue_at (entered d files p))
  next_none (Between q) k = entered_none q q.phase q.ahead k
  next_none (Inside q rest from committed) k = k

  did_none : (r : Reached) (p : Point) → IsQuiet (reached_at r) → Did d files r p → IsQuiet (queue_at p)
  did_none (Completes q) p k x = subst (λ z. IsQuiet (queue_at z)) (sym x.2) (calms_none x.1 k)
  did_none (Calls task q rest from committed) p k x = subst (λ z. IsQuiet (queue_at z)) (sym x) k
  did_none (Chooses q rest from committed) p k x = subst (λ z. IsQuiet (queue_at z)) (sym x) k

  act_none : {p r : Point} → Act d files p r → IsQuiet (queue_at p) → IsQuiet (queue_at r)
  act_none (of_wave {p = p} {p' = r} left e x) k = did_none (reach d files (entered d files p) left) r (reach_none (entered d files p) left (next_none p k)) x
  act_none (updates {q = q} e c) k = calms_none c (none_woken _ _ d.procs q.pending h k)

  settle : (q : Queue) → IsQuiet q → Settle d files no_nets q
  settle q k = (q.pending, calm (none_first d.procs q.pending k))

module _ (o : Origin) (h : All IsOther o.flat.procs) where
  begin_none : {s : Option Snapshot} {p : Point} → Begins o s p → NonePending (queue_at p).pending
  begin_none from_nothing = none_comb o.flat.procs h
  begin_none (from_snapshot c) = calms_none o.flat o.files h c (none_comb o.flat.procs h)

  after_none : {c : ℕ} {p : Point} → After o c p → NonePending (queue_at p).pending
  after_none (begins b) = begin_none b
  after_none (acts x f a) = act_none o.flat o.files h a (after_none x)

  pub are_nets : AreNets o no_nets
  are_nets = record {
    ended = λ c p left q x f ph e.
        settle o.flat o.files h (wave_ended q)
        (subst (λ r. NonePending (reached_at r).pending) e (reach_none o.flat o.files h (entered o.flat o.files p) left (next_none o.flat o.files h p (after_none x))));
    updated = λ c q x f e. settle o.flat o.files h (updates_done o.flat o.files q) (none_woken _ _ o.flat.procs q.pending h (after_none x));
    resumed = λ s e. settle o.flat o.files h (resumed o.flat s) (none_comb o.flat.procs h);
  }
