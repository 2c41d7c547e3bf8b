-- Each queue that a run comes to is steady until the run has finished: so it settles from there, and where nobody is pending,
-- all are solved.
use Rattle.std.proofs.Common.{◌≡◌, ℕ, zero, suc, ◌+◌, Bool, true, false, List, [], ◌∷◌, length, Option, Some, None, refl, sym, ap, ◌∙◌, subst, arith}
use Rattle.std.specs.Prelude.{slice_index_or, if◌then◌else◌, filter}
use Rattle.std.proofs.lemmas.List.{length-map}
use mathlib.Core.Logic.{inl, inr}
use Rattle.vl_paths.specs.vl_base.specs.declared.files.File.{File}
use Rattle.vl_paths.specs.vl_design.specs.declared.design.ProcKind.{ProcKind}
use Rattle.vl_paths.specs.vl_design.specs.declared.design.ProcKind.TheVariants.{Init, Rise, Fall, Comb, Assign}
use Rattle.vl_paths.specs.vl_design.specs.Syntax.{Proc, Flat}
use Rattle.vl_paths.specs.vl_design.specs.Exec.{exec}
use Rattle.vl_paths.specs.vl_design.specs.Functions.{scope_of}
use Rattle.vl_paths.specs.vl_design.specs.Queue as real
use Rattle.vl_paths.specs.vl_design.specs.Queue.{Queue, Phase, Wave, Ended, Updated, is_comb, is_init, is_rise, is_fall, proc_at, next, next_event, next_pending, next_phase, wave_ended, executed, evaluated}
use Rattle.vl_paths.specs.vl_design.specs.Snapshots.{Snapshot}
use Rattle.vl_paths.specs.vl_design.specs.Alone.{Origin, blocks, all_comb, falls, first_queue, risen}
use Rattle.vl_paths.specs.vl_design.specs.Laws.{IsFine, StartsFine}
use Rattle.vl_paths.specs.vl_design.proofs.Running.{some_is}
use Rattle.vl_paths.proofs.Ways.{and_true, either}
use Rattle.vl_runs.specs.Queue.{first_pending, first_done, woken, is_pending}
use Rattle.vl_runs.specs.Nets.{Waits}
use Rattle.vl_runs.proofs.Logic.{never}
use Rattle.vl_runs.proofs.Settle as S
use Rattle.vl_runs.specs.NetsOfSettle.{comb_at, run, AreSolved}
use Rattle.vl_runs.specs.Checked.{IsOrder}
use Rattle.vl_runs.specs.Runs.{Comes, begins, goes, rises, with_values}
use Rattle.vl_runs.proofs.Steady.{IsApart, IsAccepted, wakes, Laws, IsReady, AreApart, AreWaves, OfPhase, IsSteady}
use Rattle.vl_runs.proofs.Fine.{first_fine}
use Rattle.vl_runs.proofs.Instance.{lawful, placed_order}
use Rattle.vl_runs.proofs.Calming.{idle, same_step, done_only, woken_only}
use Rattle.vl_runs.proofs.Ticks.{after_block, after_update, with_state, Rested, stopped, rested}
use Rattle.vl_paths.specs.vl_design.proofs.Shared.{no_fall, no_init, no_rise}

-- ---- pending processes

-- the pending process that is found has a number
number_of : (ps : List Proc) (bs : List Bool) (k : ℕ) (p : Proc) → real.first_pending ps bs ≡ Some p →
    (i : ℕ) × (first_pending k bs ≡ Some (k + i)) × (p ≡ slice_index_or ps i idle) × (is_pending bs i ≡ true)
number_of [] bs k p h = let z : ⊥ = cc in absurd z
number_of (x ∷ ps) [] k p h = let z : ⊥ = cc in absurd z
number_of (x ∷ ps) (true ∷ bs) k p h = let z : k + 0 ≡ k = omega arith in (0, ap (λ j. Some j) (sym z), sym (some_is h), refl)
number_of (x ∷ ps) (false ∷ bs) k p h =
    let f = number_of ps bs (suc k) p h in
    let z : suc k + f.0 ≡ k + suc f.0 = omega arith in
    (suc f.0, f.1 ∙ ap (λ j. Some j) z, f.2, f.3)

none_pending : (ps : List Proc) (bs : List Bool) → length bs ≡ length ps → real.first_pending ps bs ≡ None → (i : ℕ) → is_pending bs i ≡ false
none_pending [] [] l h i = refl
none_pending [] (b ∷ bs) l h i = absurd (omega (arith, l))
none_pending (x ∷ ps) [] l h i = refl
none_pending (x ∷ ps) (true ∷ bs) l h i = let z : ⊥ = cc in absurd z
none_pending (x ∷ ps) (false ∷ bs) l h zero = refl
none_pending (x ∷ ps) (false ∷ bs) l h (suc i) = none_pending ps bs (omega (arith, l)) h i

flag_at : (ps : List Proc) (i : ℕ) → is_pending (all_comb ps) i ≡ is_comb (slice_index_or ps i idle).kind
flag_at [] i = refl
flag_at (p ∷ ps) zero = refl
flag_at (p ∷ ps) (suc i) = flag_at ps i

-- ---- blocks of a kind

module _ (d : Flat) where
  blocks_of : (p : ProcKind → Bool) → ((k : ProcKind) → p k ≡ true → is_comb k ≡ false) → (ps : List Proc) →
      ((j : ℕ) → is_comb (slice_index_or ps j idle).kind ≡ false → IsApart d (slice_index_or ps j idle).body) → AreApart d (blocks p ps)
  blocks_of p other [] h = tt
  blocks_of p other (x ∷ ps) h = go (p x.kind) refl (blocks_of p other ps (λ j. h (suc j)))
    where
      go : (b : Bool) → p x.kind ≡ b → AreApart d (blocks p ps) → AreApart d (if b then x ∷ filter (λ x. p x.kind) ps else filter (λ x. p x.kind) ps)
      go true e r = (h 0 (other x.kind e), r)
      go false e r = r

  falls_of : (ps : List Proc) → AreApart d ps → AreWaves d (falls ps)
  falls_of [] h = tt
  falls_of (p ∷ ps) h = (h, tt)

-- ---- events

module _ (d : Flat) (files : List File) (acc : IsAccepted d) (order : List ℕ) (o : IsOrder d order) where
  -- where nobody is pending, all are solved
  pub calm_solved : (q : Queue) → IsReady d files q → real.first_pending d.procs q.pending ≡ None → AreSolved d files q.state
  calm_solved q r h i l = elim (r.each i l) [ inl p ↦ never p (none_pending d.procs q.pending r.many h i) | inr s ↦ s ]

  evaluated_steady : (q : Queue) (p : Proc) → IsSteady d files q → q.state.finished ≡ false → real.first_pending d.procs q.pending ≡ Some p → IsSteady d files (evaluated d files q p)
  evaluated_steady q x s f h =
      let n = number_of d.procs q.pending 0 x h in
      let e : first_pending 0 q.pending ≡ Some n.0 = let z : 0 + n.0 ≡ n.0 = omega arith in n.1 ∙ ap (λ j. Some j) z in
      go n.0 n.2 n.3 e
    where
      laws : Laws d files q.state
      laws = lawful d files acc q.state f

      only : (i j : ℕ) → is_pending (woken (wakes d files q.state.values (run d files q.state i q.state.values)) 0 (first_done q.pending)) j ≡ true → comb_at d j ≡ true
      only i j g = elim (woken_only (wakes d files q.state.values (run d files q.state i q.state.values)) 0 (first_done q.pending) j g) [
        | inl y ↦ s.ready.only j (done_only q.pending j y)
        | inr y ↦ let z : 0 + j ≡ j = omega arith in (and_true (comb_at d j) _ (subst (λ m. wakes d files q.state.values (run d files q.state i q.state.values) m ≡ true) z y)).0
      ]

      go : (i : ℕ) → x ≡ proc_at d i → is_pending q.pending i ≡ true → first_pending 0 q.pending ≡ Some i → IsSteady d files (evaluated d files q x)
      go i m p e =
          let c : comb_at d i ≡ true = s.ready.only i p in
          let step : evaluated d files q x ≡ with_values q (run d files q.state i q.state.values) (woken (wakes d files q.state.values (run d files q.state i q.state.values)) 0 (first_done q.pending)) =
          ap {A = Proc} {B = Queue} (λ a. evaluated d files q a) m ∙ same_step d files acc q f q.state.values q.pending i c s.ready.many in
          let w : Waits (IsFine d.rows) (run d files q.state) (length d.procs) (q.state.values, q.pending) = record { fine = s.ready.fine; many = s.ready.many; each = s.ready.each } in
          let t = S.step laws order (placed_order d o) (q.state.values, q.pending) i w e in
          subst (IsSteady d files) (sym step) (record {
            ready = record { fine = t.waits.fine; many = t.waits.many; only = only i; each = t.waits.each };
            later = s.later;
            phase = s.phase;
            ahead = s.ahead;
          })

  phase_steady : (q r : Queue) (ph : Phase) (ws : List (List Proc)) → IsSteady d files q → q.state.finished ≡ false → q.ahead ≡ ws → next_phase d files q ph ws ≡ Some r → IsSteady d files r
  phase_steady q r (Wave ps) ws s f a h = let z : ⊥ = cc in absurd z
  phase_steady q r Ended ws s f a h = subst (IsSteady d files) (some_is h) (after_update d files acc q s f)
  phase_steady q r Updated [] s f a h = let z : ⊥ = cc in absurd z
  phase_steady q r Updated (w ∷ ws) s f a h =
      let k : AreWaves d (w ∷ ws) = subst (AreWaves d) a s.ahead in
      subst (IsSteady d files) (some_is h) (with_state d files acc q (record q { phase = Wave w; ahead = ws }) s f f refl refl refl k.0 k.1)

  pending_steady : (q r : Queue) (p : Option Proc) → IsSteady d files q → q.state.finished ≡ false → real.first_pending d.procs q.pending ≡ p → next_pending d files q p ≡ Some r → IsSteady d files r
  pending_steady q r None s f e h = phase_steady q r q.phase q.ahead s f refl h
  pending_steady q r (Some p) s f e h = subst (IsSteady d files) (some_is h) (evaluated_steady q p s f e)

  event_steady : (q r : Queue) (ph : Phase) → IsSteady d files q → q.state.finished ≡ false → r.state.finished ≡ false → q.phase ≡ ph → next_event d files q ph ≡ Some r → IsSteady d files r
  event_steady q r (Wave []) s f g e h = subst (IsSteady d files) (some_is h) (with_state d files acc q (wave_ended q) s f f refl refl refl tt s.ahead)
  event_steady q r (Wave (p ∷ ps)) s f g e h =
      let k : AreApart d (p ∷ ps) = subst (OfPhase d) e s.phase in
      let x : executed d files q p ps ≡ r = some_is h in
      subst (IsSteady d files) x (after_block d files acc q p ps s k.0 k.1 f (ap (λ y. y.state.finished) x ∙ g))
  event_steady q r Ended s f g e h = pending_steady q r (real.first_pending d.procs q.pending) s f refl h
  event_steady q r Updated s f g e h = pending_steady q r (real.first_pending d.procs q.pending) s f refl h

  next_steady : (q r : Queue) → (q.state.finished ≡ false → IsSteady d files q) → next d files q ≡ Some r → r.state.finished ≡ false → IsSteady d files r
  next_steady q r s h g = go q.state.finished refl h
    where
      go : (b : Bool) → q.state.finished ≡ b → (if b then None else next_event d files q q.phase) ≡ Some r → IsSteady d files r
      go true e k = let z : ⊥ = cc in absurd z
      go false e k = event_steady q r q.phase (s e) e g refl k

  -- ---- where a run begins, and each tick

  -- where each combinational process is pending
  fresh_ready : (q : Queue) → IsFine d.rows q.state.values → q.pending ≡ all_comb d.procs → IsReady d files q
  fresh_ready q f e = record {
    fine = f;
    many = ap length e ∙ length-map d.procs (λ p. is_comb p.kind);
    only = λ i h. sym (flag i) ∙ h;
    each = λ i l. elim (either (comb_at d i)) [ inl c ↦ inl (flag i ∙ c) | inr c ↦ inr (ap (λ b. if b then (exec (scope_of d files) (proc_at d i).body q.state).values else q.state.values) c) ];
  }
    where
      flag : (i : ℕ) → is_pending q.pending i ≡ comb_at d i
      flag i = ap (λ bs. is_pending bs i) e ∙ flag_at d.procs i

  risen_steady : (q : Queue) → (q.state.finished ≡ false → IsSteady d files q) → (risen d q).state.finished ≡ false → IsSteady d files (risen d q)
  risen_steady q s g = go q.state.finished refl g
    where
      up : Queue
      up = record q {
        state = record (q.state) { ticks = q.state.ticks + 1; saves = [] };
        phase = Wave (blocks is_rise d.procs);
        ahead = falls (blocks is_fall d.procs);
      }

      go : (b : Bool) → q.state.finished ≡ b → (if b then q else up).state.finished ≡ false → IsSteady d files (if b then q else up)
      go true e h = s h
      go false e h = with_state d files acc q up (s e) e e refl refl refl (blocks_of d is_rise no_rise d.procs acc.apart) (falls_of d (blocks is_fall d.procs) (blocks_of d is_fall no_fall d.procs acc.apart))

module _ (o : Origin) (acc : IsAccepted o.flat) (order : List ℕ) (ord : IsOrder o.flat order) (fine : StartsFine o.flat.rows o.resume) where
  first_steady : (s : Option Snapshot) → StartsFine o.flat.rows s → IsSteady o.flat o.files (first_queue o s)
  first_steady None h = record {
    ready = fresh_ready o.flat o.files acc order ord (first_queue o None) (first_fine o None h) refl;
    later = λ i x k. tt;
    phase = blocks_of o.flat is_init no_init o.flat.procs acc.apart;
    ahead = tt;
  }
  first_steady (Some s) h = record {
    ready = fresh_ready o.flat o.files acc order ord (first_queue o (Some s)) (first_fine o (Some s) h) refl;
    later = λ i x k. tt;
    phase = tt;
    ahead = tt;
  }

  pub comes_steady : {q : Queue} → Comes o q → q.state.finished ≡ false → IsSteady o.flat o.files q
  comes_steady begins f = first_steady o.resume fine
  comes_steady (goes {q = x} {r = r} c e) f = next_steady o.flat o.files acc order ord x r (λ g. comes_steady c g) e f
  comes_steady (rises {q = x} c e) f = risen_steady o.flat o.files acc order ord x (λ g. comes_steady c g) f

  pub comes_rested : {q : Queue} → Comes o q → Rested o.flat o.files acc order ord q
  comes_rested {q} c = elim (either q.state.finished) [ inl e ↦ stopped o.flat o.files acc order ord q e | inr e ↦ rested o.flat o.files acc order ord q (comes_steady c e) ]
