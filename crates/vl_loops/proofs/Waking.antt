-- Event by event, the run of a design with its loops unrolled is the run of the design.
use Rattle.std.proofs.Common.{◌≡◌, ℕ, zero, suc, Bool, true, false, List, [], ◌∷◌, map, length, Option, Some, None, refl, sym, ap, ◌∙◌, subst, arith}
use Rattle.std.specs.Prelude.{◌&&◌, not, option_map, unwrap_or, if◌then◌else◌, replicate, take, drop, filter, ⊤}
use Rattle.std.specs.List.{AllByRecursion}
use Rattle.std.specs.Str.{bytes_eq}
use Rattle.std.proofs.lemmas.Bool.{eq-eqb}
use Rattle.std.proofs.lemmas.List.Elements.{recursion_from_All}
use Rattle.vl_base.specs.declared.files.File.{File}
use Rattle.vl_design.specs.declared.design.ProcKind.{ProcKind}
use Rattle.vl_design.specs.Syntax.{Row, Proc, Flat}
use Rattle.vl_design.specs.Value.{words_of}
use Rattle.vl_design.specs.State.{State, counted}
use Rattle.vl_design.specs.Exec.{exec}
use Rattle.vl_design.specs.Functions.{zeros, fresh, scope_of}
use Rattle.vl_design.specs.Queue.{Queue, Phase, Wave, Ended, Updated, changed, is_init, is_rise, is_fall, is_comb, woken, first_pending, first_done, with_updates, moved, next_phase, next_pending, next_event, next}
use Rattle.vl_design.specs.Snapshots.{Snapshot, kept_values, is_kept}
use Rattle.vl_design.specs.Alone.{Origin, Settles, rests, goes, blocks, all_comb, start, resumed, falls, risen, first_queue, Boundary, begun, ticked}
use Rattle.vl_design.specs.declared.design.SigKind.{SigKind}
use Rattle.vl_design.specs.declared.design.SigKind.TheVariants as k
use Rattle.vl_loops.specs.Unroll.{is_loop, is_loop_kind, unrolled_flat}
use Rattle.vl_loops.specs.Fits.{CanUnroll, IsStill, IsBlock, HasLoops, proc_put, phase_put, queue_put, origin_put}
use Rattle.vl_design.specs.Width.{names_of}
use Rattle.vl_design.specs.Sound.{IsSoundProc}
use Rattle.vl_design.specs.Observed.{observed, IsSameRun}
use Rattle.vl_design.specs.Reads.{stm_reads}
use Rattle.vl_design.specs.Turns.{turns_read}
use Rattle.vl_loops.proofs.Bare.{bare, bare_reads}
use Rattle.vl_loops.proofs.Reading.{reads_same}
use Rattle.vl_loops.proofs.Texts.{text_same}
use Rattle.vl_design.proofs.Kept.{OfUpdates}
use Rattle.vl_loops.proofs.Resting.{fine_keeps}
use Rattle.vl_loops.proofs.Stepping.{updates_long}
use Rattle.vl_loops.proofs.Calling.{block_same, block_still, block_fine}
use Rattle.vl_base.proofs.Lists.{bytes_eq_self as same_bytes}

abbrev OurBlocks : Flat → List Proc → Type 0
OurBlocks d ps = AllByRecursion (λ p. IsBlock d p.body) ps

-- each process does such a statement
pub all_ours : (d : Flat) → CanUnroll d → OurBlocks d d.procs
all_ours d can = both d.procs (recursion_from_All (IsSoundProc (names_of d)) d.procs can.sound.procs) (recursion_from_All (λ p. HasLoops d.rows p.body) d.procs can.procs)
  where
    both : (ps : List Proc) → AllByRecursion (IsSoundProc (names_of d)) ps → AllByRecursion (λ p. HasLoops d.rows p.body) ps → OurBlocks d ps
    both [] h k = tt
    both (p ∷ ps) h k = (record { sound = (h.0).body; loops = k.0 }, both ps h.1 k.1)

module _ (d : Flat) (can : CanUnroll d) (files : List File) where
  ours : OurBlocks d d.procs
  ours = all_ours d can

  abbrev e : Flat
  e = unrolled_flat d

  abbrev up : Proc → Proc
  up = proc_put d

  abbrev OurPhase : Phase → Type 0
  OurPhase (Wave ps) = OurBlocks d ps
  OurPhase Ended = ⊤
  OurPhase Updated = ⊤

  -- what holds of each queue of a run
  record Ours (q : Queue) : Type 0 where
    pub still : IsStill d.rows q.state
    pub fine : OfUpdates (is_loop d.rows) q.state.later
    pub phase : OurPhase q.phase
    pub ahead : AllByRecursion (OurBlocks d) q.ahead

  -- ---- who is woken

  unchanged : (s t : State) → IsStill d.rows s → IsStill d.rows t → (j : ℕ) → is_loop d.rows j ≡ true → changed s.values t.values j ≡ false
  unchanged s t h k j m = ap (λ ws. not (bytes_eq ws (words_of t.values j))) (h.loops j m ∙ sym (k.loops j m)) ∙ ap not (same_bytes (words_of t.values j))

  wakes_same : (p : Proc) → IsBlock d p.body → (test : ℕ → Bool) → ((j : ℕ) → is_loop d.rows j ≡ true → test j ≡ false) →
      turns_read (scope_of e files) test (up p).body (fresh (zeros d.rows)) ≡ turns_read (scope_of d files) test p.body (fresh (zeros d.rows))
  wakes_same p k test h =
      let z = fresh (zeros d.rows) in
      bare_reads (scope_of e files) test (up p).body (bare (scope_of d []) p.body z) z
      ∙ (ap (stm_reads test) (sym (text_same (scope_of d []) d.rows d.funs files (scope_of d files).call p.body k.loops z))
      ∙ reads_same (scope_of d files) test h p.body z)

  woken_put : (test : ℕ → Bool) → ((j : ℕ) → is_loop d.rows j ≡ true → test j ≡ false) → (ps : List Proc) → OurBlocks d ps → (bs : List Bool) → woken (scope_of e files) test (map up ps) bs ≡ woken (scope_of d files) test ps bs
  woken_put test h [] o bs = refl
  woken_put test h (p ∷ ps) o [] = refl
  woken_put test h (p ∷ ps) o (b ∷ bs) = rw (wakes_same p o.0 test h, woken_put test h ps o.1 bs) refl

  moved_put : (q : Queue) (s : State) (phase : Phase) (pending : List Bool) → IsStill d.rows q.state → IsStill d.rows s →
      moved (scope_of e files) e.procs (queue_put d q) s (phase_put d phase) pending ≡ queue_put d (moved (scope_of d files) d.procs q s phase pending)
  moved_put q s phase pending h k =
      ap (λ (z : List Bool). queue_put d (record { state = s; phase = phase; ahead = q.ahead; pending = z })) (woken_put (changed q.state.values s.values) (unchanged q.state s h k) d.procs ours pending)

  -- ---- which process is next

  first_put : (ps : List Proc) (bs : List Bool) → first_pending (map up ps) bs ≡ option_map up (first_pending ps bs)
  first_put [] bs = refl
  first_put (p ∷ ps) [] = refl
  first_put (p ∷ ps) (true ∷ bs) = refl
  first_put (p ∷ ps) (false ∷ bs) = first_put ps bs

  abbrev OurFirst : Option Proc → Type 0
  OurFirst None = ⊤
  OurFirst (Some p) = IsBlock d p.body

  first_ours : (ps : List Proc) → OurBlocks d ps → (bs : List Bool) → OurFirst (first_pending ps bs)
  first_ours [] o bs = tt
  first_ours (p ∷ ps) o [] = tt
  first_ours (p ∷ ps) o (true ∷ bs) = o.0
  first_ours (p ∷ ps) o (false ∷ bs) = first_ours ps o.1 bs

  blocks_put : (k : ProcKind → Bool) (ps : List Proc) → blocks k (map up ps) ≡ map up (blocks k ps)
  blocks_put k [] = refl
  blocks_put k (p ∷ ps) = at (k p.kind) (blocks_put k ps)
    where
      at : (b : Bool) → blocks k (map up ps) ≡ map up (blocks k ps) →
          (if b then up p ∷ filter (λ (x : Proc). k x.kind) (map up ps) else filter (λ (x : Proc). k x.kind) (map up ps))
          ≡ map up (if b then p ∷ filter (λ (x : Proc). k x.kind) ps else filter (λ (x : Proc). k x.kind) ps)
      at true h = ap (λ z. up p ∷ z) h
      at false h = h

  blocks_ours : (k : ProcKind → Bool) (ps : List Proc) → OurBlocks d ps → OurBlocks d (blocks k ps)
  blocks_ours k [] o = tt
  blocks_ours k (p ∷ ps) o = at (k p.kind) (blocks_ours k ps o.1)
    where
      at : (b : Bool) → OurBlocks d (blocks k ps) → OurBlocks d (if b then p ∷ filter (λ (x : Proc). k x.kind) ps else filter (λ (x : Proc). k x.kind) ps)
      at true h = (o.0, h)
      at false h = h

  -- ---- one event

  updates_still : (s : State) → IsStill d.rows s → OfUpdates (is_loop d.rows) s.later → IsStill d.rows (counted (with_updates d.rows s))
  updates_still s h f = record { loops = λ j m. fine_keeps (is_loop d.rows) j m d.rows s.later f s.values ∙ h.loops j m; size = updates_long d.rows s.later s.values ∙ h.size; alive = h.alive }

  phase_next : (q : Queue) → Ours q → (phase : Phase) (ahead : List (List Proc)) → next_phase e files (queue_put d q) (phase_put d phase) (map (map up) ahead) ≡ option_map (queue_put d) (next_phase d files q phase ahead)
  phase_next q o (Wave bs) ahead = refl
  phase_next q o Ended ahead = ap Some (moved_put q (counted (with_updates d.rows q.state)) Updated q.pending o.still (updates_still q.state o.still o.fine))
  phase_next q o Updated [] = refl
  phase_next q o Updated (w ∷ ws) = refl

  pending_next : (q : Queue) → Ours q → (first : Option Proc) → OurFirst first → next_pending e files (queue_put d q) (option_map up first) ≡ option_map (queue_put d) (next_pending d files q first)
  pending_next q o None f = phase_next q o q.phase q.ahead
  pending_next q o (Some b) f =
      ap (λ (s : State). Some (moved (scope_of e files) e.procs (queue_put d q) s (phase_put d q.phase) (first_done q.pending))) (block_same d can files b.body f q.state o.still)
      ∙ ap Some (moved_put q (exec (scope_of d files) b.body q.state) q.phase (first_done q.pending) o.still (block_still d can files b.body f q.state o.still))

  quiet_next : (q : Queue) → Ours q → next_pending e files (queue_put d q) (first_pending e.procs q.pending) ≡ option_map (queue_put d) (next_pending d files q (first_pending d.procs q.pending))
  quiet_next q o = ap (next_pending e files (queue_put d q)) (first_put d.procs q.pending) ∙ pending_next q o (first_pending d.procs q.pending) (first_ours d.procs ours q.pending)

  event_next : (q : Queue) → Ours q → (phase : Phase) → OurPhase phase → next_event e files (queue_put d q) (phase_put d phase) ≡ option_map (queue_put d) (next_event d files q phase)
  event_next q o (Wave []) w = refl
  event_next q o (Wave (b ∷ bs)) w =
      ap (λ (s : State). Some (moved (scope_of e files) e.procs (queue_put d q) s (Wave (map up bs)) q.pending)) (block_same d can files b.body w.0 q.state o.still)
      ∙ ap Some (moved_put q (exec (scope_of d files) b.body q.state) (Wave bs) q.pending o.still (block_still d can files b.body w.0 q.state o.still))
  event_next q o Ended w = quiet_next q o
  event_next q o Updated w = quiet_next q o

  next_put : (q : Queue) → Ours q → next e files (queue_put d q) ≡ option_map (queue_put d) (next d files q)
  next_put q o = at (q.state.finished) _ _ (event_next q o q.phase o.phase)
    where
      at : (b : Bool) (x y : Option Queue) → x ≡ option_map (queue_put d) y → (if b then None else x) ≡ option_map (queue_put d) (if b then None else y)
      at true x y h = refl
      at false x y h = h

  abbrev OursIf : Option Queue → Type 0
  OursIf None = ⊤
  OursIf (Some q) = Ours q

  phase_ours : (q : Queue) → Ours q → (phase : Phase) → OurPhase phase → (ahead : List (List Proc)) → AllByRecursion (OurBlocks d) ahead → OursIf (next_phase d files q phase ahead)
  phase_ours q o (Wave bs) w ahead a = tt
  phase_ours q o Ended w ahead a = record { still = updates_still q.state o.still o.fine; fine = tt; phase = tt; ahead = o.ahead }
  phase_ours q o Updated w [] a = tt
  phase_ours q o Updated w (b ∷ bs) a = record { still = o.still; fine = o.fine; phase = a.0; ahead = a.1 }

  pending_ours : (q : Queue) → Ours q → (first : Option Proc) → OurFirst first → OursIf (next_pending d files q first)
  pending_ours q o None f = phase_ours q o q.phase o.phase q.ahead o.ahead
  pending_ours q o (Some b) f = record { still = block_still d can files b.body f q.state o.still; fine = block_fine d can files b.body f q.state o.still o.fine; phase = o.phase; ahead = o.ahead }

  event_ours : (q : Queue) → Ours q → (phase : Phase) → OurPhase phase → OursIf (next_event d files q phase)
  event_ours q o (Wave []) w = record { still = record { loops = o.still.loops; size = o.still.size; alive = o.still.alive }; fine = o.fine; phase = tt; ahead = o.ahead }
  event_ours q o (Wave (b ∷ bs)) w = record { still = block_still d can files b.body w.0 q.state o.still; fine = block_fine d can files b.body w.0 q.state o.still o.fine; phase = w.1; ahead = o.ahead }
  event_ours q o Ended w = pending_ours q o (first_pending d.procs q.pending) (first_ours d.procs ours q.pending)
  event_ours q o Updated w = pending_ours q o (first_pending d.procs q.pending) (first_ours d.procs ours q.pending)

  next_ours : (q : Queue) → Ours q → OursIf (next d files q)
  next_ours q o = at (q.state.finished) _ (event_ours q o q.phase o.phase)
    where
      at : (b : Bool) (x : Option Queue) → OursIf x → OursIf (if b then None else x)
      at true x h = tt
      at false x h = h

  -- ---- runs

  settles_put : {q r : Queue} → Ours q → Settles d files q r → Ours r × Settles e files (queue_put d q) (queue_put d r)
  settles_put o (rests {q = q} h) = (o, rests (next_put q o ∙ ap (option_map (queue_put d)) h))
  settles_put o (goes {q = q} {r = r} h k) =
      let p = settles_put (subst OursIf h (next_ours q o)) k in
      (p.0, goes (next_put q o ∙ ap (option_map (queue_put d)) h) p.1)

  none_back : (x : Option Queue) → option_map (queue_put d) x ≡ None → x ≡ None
  none_back None h = refl
  none_back (Some q) h = let z : ⊥ = cc in absurd z

  some_back : (x : Option Queue) (s : Queue) → option_map (queue_put d) x ≡ Some s → OursIf x → (r : Queue) × (x ≡ Some r) × (s ≡ queue_put d r) × Ours r
  some_back None s h o = let z : ⊥ = cc in absurd z
  some_back (Some r) s h o = let z : queue_put d r ≡ s = ap (λ (y : Option Queue). unwrap_or y s) h in (r, refl, sym z, o)

  -- and back
  settles_back : {p s : Queue} → Settles e files p s → (q : Queue) → p ≡ queue_put d q → Ours q → (r : Queue) × Settles d files q r × (s ≡ queue_put d r) × Ours r
  settles_back (rests {q = p} h) q z o =
      let n : next d files q ≡ None = none_back (next d files q) (sym (next_put q o) ∙ (ap (next e files) (sym z) ∙ h)) in
      (q, rests n, z, o)
  settles_back (goes {q = p} {r = s} h k) q z o =
      let m = some_back (next d files q) s (sym (next_put q o) ∙ (ap (next e files) (sym z) ∙ h)) (next_ours q o) in
      let b = settles_back k m.0 m.2 m.3 in
      (b.0, goes m.1 b.1, b.2, b.3)

  combs_put : (ps : List Proc) → all_comb (map up ps) ≡ all_comb ps
  combs_put [] = refl
  combs_put (p ∷ ps) = ap (λ z. is_comb p.kind ∷ z) (combs_put ps)

  falls_put : (bs : List Proc) → falls (map up bs) ≡ map (map up) (falls bs)
  falls_put [] = refl
  falls_put (b ∷ bs) = refl

  falls_ours : (bs : List Proc) → OurBlocks d bs → AllByRecursion (OurBlocks d) (falls bs)
  falls_ours [] o = tt
  falls_ours (b ∷ bs) o = (o, tt)

  risen_ours : (q : Queue) → Ours q → Ours (risen d q)
  risen_ours q o = at (q.state.finished) (record { still = record { loops = o.still.loops; size = o.still.size; alive = o.still.alive }; fine = o.fine; phase = blocks_ours is_rise d.procs ours; ahead = falls_ours _ (blocks_ours is_fall d.procs ours) })
    where
      at : (b : Bool) {r : Queue} → Ours r → Ours (if b then q else r)
      at true h = o
      at false h = h

  risen_put : (q : Queue) → risen e (queue_put d q) ≡ queue_put d (risen d q)
  risen_put q = at (q.state.finished) _ _ (rw (blocks_put is_rise d.procs, blocks_put is_fall d.procs, falls_put (blocks is_fall d.procs)) refl)
    where
      at : (b : Bool) (r t : Queue) → r ≡ queue_put d t → (if b then queue_put d q else r) ≡ queue_put d (if b then q else t)
      at true r t h = refl
      at false r t h = h

  start_put : start e ≡ queue_put d (start d)
  start_put = rw (blocks_put is_init d.procs, combs_put d.procs) refl

  start_ours : Ours (start d)
  start_ours = record { still = record { loops = λ j m. refl; size = refl; alive = refl }; fine = tt; phase = blocks_ours is_init d.procs ours; ahead = tt }

  resumed_put : (s : Snapshot) → resumed e s ≡ queue_put d (resumed d s)
  resumed_put s = rw (combs_put d.procs) refl

  -- a snapshot has no loop variables: they are 0
  kept_long : (rows : List Row) (words : List ℕ) → length (kept_values rows words) ≡ length (zeros rows)
  kept_long [] words = refl
  kept_long (r ∷ rs) words = at (is_kept r.kind) (kept_long rs (drop r.words words)) (kept_long rs words)
    where
      at : (b : Bool) → length (kept_values rs (drop r.words words)) ≡ length (zeros rs) → length (kept_values rs words) ≡ length (zeros rs) →
          length (if b then take r.words words ∷ kept_values rs (drop r.words words) else replicate r.words 0 ∷ kept_values rs words) ≡ length (replicate r.words 0 ∷ zeros rs)
      at true h k = omega (arith, h)
      at false h k = omega (arith, k)

  kind_kept : (kind : SigKind) → is_loop_kind kind ≡ true → is_kept kind ≡ false
  kind_kept k.Loop h = refl
  kind_kept k.Net h = refl
  kind_kept k.Var h = let z : ⊥ = cc in absurd z
  kind_kept k.Comb h = refl
  kind_kept k.Mem h = let z : ⊥ = cc in absurd z
  kind_kept k.Clock h = refl

  kept_loops : (rows : List Row) (words : List ℕ) (j : ℕ) → is_loop rows j ≡ true → words_of (kept_values rows words) j ≡ words_of (zeros rows) j
  kept_loops [] words j m = refl
  kept_loops (r ∷ rs) words zero m = at (is_kept r.kind) (kind_kept r.kind m)
    where
      at : (b : Bool) → b ≡ false → words_of (if b then take r.words words ∷ kept_values rs (drop r.words words) else replicate r.words 0 ∷ kept_values rs words) 0 ≡ replicate r.words 0
      at true h = let z : ⊥ = cc in absurd z
      at false h = refl
  kept_loops (r ∷ rs) words (suc j) m = at (is_kept r.kind) (kept_loops rs (drop r.words words) j m) (kept_loops rs words j m)
    where
      at : (b : Bool) → words_of (kept_values rs (drop r.words words)) j ≡ words_of (zeros rs) j → words_of (kept_values rs words) j ≡ words_of (zeros rs) j →
          words_of (if b then take r.words words ∷ kept_values rs (drop r.words words) else replicate r.words 0 ∷ kept_values rs words) (suc j) ≡ words_of (zeros rs) j
      at true h k = h
      at false h k = k

  resumed_ours : (s : Snapshot) → Ours (resumed d s)
  resumed_ours s = record { still = record { loops = kept_loops d.rows s.words; size = kept_long d.rows s.words; alive = refl }; fine = tt; phase = tt; ahead = tt }

module _ (o : Origin) (can : CanUnroll o.flat) where
  first_put_queue : (r : Option Snapshot) → first_queue (origin_put o) r ≡ queue_put o.flat (first_queue o r)
  first_put_queue None = start_put o.flat can o.files
  first_put_queue (Some s) = resumed_put o.flat can o.files s

  first_ours_queue : (r : Option Snapshot) → Ours o.flat can o.files (first_queue o r)
  first_ours_queue None = start_ours o.flat can o.files
  first_ours_queue (Some s) = resumed_ours o.flat can o.files s

  boundary_both : {k : ℕ} {q : Queue} → Boundary o k q → Ours o.flat can o.files q × Boundary (origin_put o) k (queue_put o.flat q)
  boundary_both (begun {q = q} h s) =
      let p = settles_put o.flat can o.files (first_ours_queue o.resume) s in
      (p.0, begun h (subst (λ z. Settles (unrolled_flat o.flat) o.files z (queue_put o.flat q)) (sym (first_put_queue o.resume)) p.1))
  boundary_both (ticked {before = b} {after = a} h s) =
      let f = boundary_both h in
      let p = settles_put o.flat can o.files (risen_ours o.flat can o.files b f.0) s in
      (p.0, ticked f.1 (subst (λ z. Settles (unrolled_flat o.flat) o.files z (queue_put o.flat a)) (sym (risen_put o.flat can o.files b)) p.1))

  pub boundary_put : (k : ℕ) (q : Queue) → Boundary o k q → Boundary (origin_put o) k (queue_put o.flat q)
  boundary_put k q b = (boundary_both b).1

  boundary_from : {k : ℕ} {s : Queue} → Boundary (origin_put o) k s → (q : Queue) × Boundary o k q × (s ≡ queue_put o.flat q) × Ours o.flat can o.files q
  boundary_from (begun {q = s} h k) =
      let b = settles_back o.flat can o.files k (first_queue o o.resume) (first_put_queue o.resume) (first_ours_queue o.resume) in
      (b.0, begun h b.1, b.2, b.3)
  boundary_from (ticked {before = x} {after = s} h k) =
      let f = boundary_from h in
      let z = ap (risen (unrolled_flat o.flat)) f.2 ∙ risen_put o.flat can o.files f.0 in
      let b = settles_back o.flat can o.files k (risen o.flat f.0) z (risen_ours o.flat can o.files f.0 f.3) in
      (b.0, ticked f.1 b.1, b.2, b.3)

  pub boundary_back : (k : ℕ) (s : Queue) → Boundary (origin_put o) k s → (q : Queue) × Boundary o k q × (s ≡ queue_put o.flat q)
  boundary_back k s b = let f = boundary_from b in (f.0, f.1, f.2)

  pub run_same : IsSameRun o (record o { flat = unrolled_flat o.flat })
  run_same = record {
    there = λ k q b. (queue_put o.flat q, boundary_put k q b, refl);
    back = λ k s b. let f = boundary_back k s b in (f.0, f.1, ap (λ (z : Queue). observed o.flat.rows z.state) f.2);
  }
