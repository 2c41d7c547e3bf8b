-- A queue in which each combinational process is pending or solved calms by evaluations.
use Rattle.std.proofs.Common.{◌≡◌, ℕ, zero, suc, ◌+◌, Bool, true, false, List, [], ◌∷◌, length, Option, Some, None, refl, sym, ap, ◌∙◌, subst, arith}
use Rattle.std.specs.Prelude.{◌&&◌, ◌⊎◌, ⊤, slice_index_or, if◌then◌else◌}
use mathlib.Core.Logic.{inl, inr}
use Rattle.vl_paths.specs.vl_base.specs.declared.files.File.{File}
use Rattle.vl_paths.specs.vl_design.specs.declared.design.ProcKind.TheVariants.{Init}
use Rattle.vl_paths.specs.vl_design.specs.Syntax.{Nop, Proc, Flat}
use Rattle.vl_paths.specs.vl_design.specs.Width.{Scope}
use Rattle.vl_paths.specs.vl_design.specs.State.{State}
use Rattle.vl_paths.specs.vl_design.specs.Exec.{exec}
use Rattle.vl_paths.specs.vl_design.specs.Functions.{scope_of, zeros, fresh}
use Rattle.vl_paths.specs.vl_design.specs.Queue as real
use Rattle.vl_paths.specs.vl_design.specs.Queue.{Queue, Phase, Wave, Ended, Updated, changed, is_comb, proc_at, next, next_event, next_pending, evaluated}
use Rattle.vl_paths.specs.vl_design.specs.Turns.{turns_read}
use Rattle.vl_paths.specs.vl_design.specs.Alone as alone
use Rattle.vl_paths.specs.vl_design.specs.Acts as acts
use Rattle.vl_paths.specs.vl_design.specs.Acts.{Calms}
use Rattle.vl_paths.specs.vl_design.specs.Laws.{IsFine}
use Rattle.vl_paths.specs.vl_design.proofs.Running.{some_is}
use Rattle.vl_paths.proofs.Ways.{or_true, and_true}
use Rattle.vl_paths.proofs.Untouched.{frame}
use Rattle.vl_runs.specs.Queue.{first_pending, first_done, woken, is_pending, next_of, Settles, rests, goes}
use Rattle.vl_runs.specs.Nets.{pass, Waits}
use Rattle.vl_runs.proofs.Pending.{done_length, woken_length}
use Rattle.vl_runs.proofs.Settle as S
use Rattle.vl_runs.specs.NetsOfSettle.{is_memory, comb_at, run}
use Rattle.vl_runs.specs.Checked.{IsOrder}
use Rattle.vl_runs.specs.Runs.{with_values, Calmed}
use Rattle.vl_runs.proofs.Steady.{IsAccepted, wakes, Laws, IsReady}
use Rattle.vl_runs.proofs.Instance.{lawful, placed_order}

-- ---- flags by number, and flags beside processes

abbrev pub idle : Proc
idle = record { kind = Init; events = []; body = Nop }

real_first : (ps : List Proc) (bs : List Bool) (k p : ℕ) → length bs ≡ length ps → first_pending k bs ≡ Some p →
    (i : ℕ) × (p ≡ k + i) × (is_pending bs i ≡ true) × (real.first_pending ps bs ≡ Some (slice_index_or ps i idle))
real_first ps [] k p e h = let z : ⊥ = cc in absurd z
real_first [] (b ∷ bs) k p e h = absurd (omega (arith, e))
real_first (x ∷ ps) (true ∷ bs) k p e h = let f : k ≡ p = some_is h in (0, omega (arith, f), refl, refl)
real_first (x ∷ ps) (false ∷ bs) k p e h = let f = real_first ps bs (suc k) p (omega (arith, e)) h in (suc f.0, omega (arith, f.1), f.2, f.3)

real_none : (ps : List Proc) (bs : List Bool) (k : ℕ) → first_pending k bs ≡ None → real.first_pending ps bs ≡ None
real_none [] bs k h = refl
real_none (x ∷ ps) [] k h = refl
real_none (x ∷ ps) (true ∷ bs) k h = let z : ⊥ = cc in absurd z
real_none (x ∷ ps) (false ∷ bs) k h = real_none ps bs (suc k) h

real_done : (bs : List Bool) → real.first_done bs ≡ first_done bs
real_done [] = refl
real_done (true ∷ bs) = refl
real_done (false ∷ bs) = ap (λ x. false ∷ x) (real_done bs)

pub real_woken : (scope : Scope) (f w : ℕ → Bool) (ps : List Proc) (bs : List Bool) (k : ℕ) → length bs ≡ length ps →
    ((i : ℕ) → w (k + i) ≡ (is_comb (slice_index_or ps i idle).kind && turns_read scope f (slice_index_or ps i idle).body (fresh (zeros scope.names.rows)))) → real.woken scope f ps bs ≡ woken w k bs
real_woken scope f w [] [] k e h = refl
real_woken scope f w [] (b ∷ bs) k e h = absurd (omega (arith, e))
real_woken scope f w (x ∷ ps) [] k e h = absurd (omega (arith, e))
real_woken scope f w (x ∷ ps) (b ∷ bs) k e h =
    let z : k + 0 ≡ k = omega arith in
    let i : w k ≡ (is_comb x.kind && turns_read scope f x.body (fresh (zeros scope.names.rows))) = ap w (sym z) ∙ h 0 in
    let j : real.woken scope f ps bs ≡ woken w (suc k) bs = real_woken scope f w ps bs (suc k) (omega (arith, e)) (λ i. let y : suc k + i ≡ k + suc i = omega arith in ap w y ∙ h (suc i)) in
    rw (i, j) refl

pub done_only : (bs : List Bool) (j : ℕ) → is_pending (first_done bs) j ≡ true → is_pending bs j ≡ true
done_only [] j h = h
done_only (true ∷ bs) zero h = refl
done_only (true ∷ bs) (suc j) h = h
done_only (false ∷ bs) zero h = h
done_only (false ∷ bs) (suc j) h = done_only bs j h

pub woken_only : (w : ℕ → Bool) (k : ℕ) (bs : List Bool) (j : ℕ) → is_pending (woken w k bs) j ≡ true → (is_pending bs j ≡ true) ⊎ (w (k + j) ≡ true)
woken_only w k [] j h = inl h
woken_only w k (b ∷ bs) zero h = let z : k + 0 ≡ k = omega arith in rw z (or_true b (w k) h)
woken_only w k (b ∷ bs) (suc j) h = let z : suc k + j ≡ k + suc j = omega arith in subst (λ m. (is_pending bs j ≡ true) ⊎ (w m ≡ true)) z (woken_only w (suc k) bs j h)

-- ---- events

abbrev pub IsBehind : Phase → Type 0
IsBehind (Wave ps) = ⊥
IsBehind Ended = ⊤
IsBehind Updated = ⊤

module _ (d : Flat) (files : List File) where
  event_of : (q : Queue) (ph : Phase) → IsBehind ph → next_event d files q ph ≡ next_pending d files q (real.first_pending d.procs q.pending)
  event_of q (Wave ps) h = absurd h
  event_of q Ended h = refl
  event_of q Updated h = refl

  -- behind a wave, the next event of a run that goes on
  pub next_behind : (q : Queue) → q.state.finished ≡ false → IsBehind q.phase → (o : Option Proc) → real.first_pending d.procs q.pending ≡ o → next d files q ≡ next_pending d files q o
  next_behind q alive h o e = ap (λ b. if b then None else next_event d files q q.phase) alive ∙ event_of q q.phase h ∙ ap (next_pending d files q) e

  module _ (acc : IsAccepted d) (q : Queue) (alive : q.state.finished ≡ false) where
    -- one evaluation, in both forms
    pub same_step : (v : List (List ℕ)) (bs : List Bool) (i : ℕ) → comb_at d i ≡ true → length bs ≡ length d.procs →
        evaluated d files (with_values q v bs) (proc_at d i) ≡ with_values q (run d files q.state i v) (woken (wakes d files v (run d files q.state i v)) 0 (first_done bs))
    same_step v bs i c m = ap {A = State} {B = Queue} made state ∙ ap {A = List Bool} {B = Queue} (λ f. record q { state = record (q.state) { values = run d files q.state i v }; pending = f }) flags
      where
        made : State → Queue
        made t = record q { state = t; pending = real.woken (scope_of d files) (changed v t.values) d.procs (real.first_done bs) }

        ran : run d files q.state i v ≡ (exec (scope_of d files) (proc_at d i).body (record (q.state) { values = v })).values
        ran = ap (λ x. if x then (exec (scope_of d files) (proc_at d i).body (record (q.state) { values = v })).values else v) c

        state : exec (scope_of d files) (proc_at d i).body (record (q.state) { values = v }) ≡ record (q.state) { values = run d files q.state i v }
        state = frame (is_memory d.rows) (scope_of d files) (proc_at d i).body (acc.nets i c) (acc.quiet i c) (record (q.state) { values = v }) ∙ ap {A = List (List ℕ)} {B = State} (λ w. record (q.state) { values = w }) (sym ran)

        flags : real.woken (scope_of d files) (changed v (run d files q.state i v)) d.procs (real.first_done bs) ≡ woken (wakes d files v (run d files q.state i v)) 0 (first_done bs)
        flags = ap (real.woken (scope_of d files) (changed v (run d files q.state i v)) d.procs) (real_done bs)
            ∙ real_woken (scope_of d files) (changed v (run d files q.state i v)) (wakes d files v (run d files q.state i v)) d.procs (first_done bs) 0 (done_length bs ∙ m) (λ j. let z : 0 + j ≡ j = omega arith in rw z refl)

    pub record Lifted (a b : List (List ℕ) × List Bool) : Type 0 where
      pub calms : Calms d files (with_values q a.0 a.1) (with_values q b.0 b.1)
      pub calm : first_pending 0 b.1 ≡ None
      pub many : length b.1 ≡ length d.procs
      pub only : (i : ℕ) → is_pending b.1 i ≡ true → comb_at d i ≡ true
      pub settles : IsBehind q.phase → (r : Queue) → alone.Settles d files (with_values q b.0 b.1) r → alone.Settles d files (with_values q a.0 a.1) r

    none_is : (v : List (List ℕ)) (bs : List Bool) (o : Option ℕ) → next_of (run d files q.state) (wakes d files) v bs o ≡ None → o ≡ None
    none_is v bs None h = refl
    none_is v bs (Some p) h = let z : ⊥ = cc in absurd z

    some_by : (v : List (List ℕ)) (bs : List Bool) (r : List (List ℕ) × List Bool) (o : Option ℕ) → next_of (run d files q.state) (wakes d files) v bs o ≡ Some r →
        (p : ℕ) × (o ≡ Some p) × ((run d files q.state p v, woken (wakes d files v (run d files q.state p v)) 0 (first_done bs)) ≡ r)
    some_by v bs r None h = let z : ⊥ = cc in absurd z
    some_by v bs r (Some p) h = (p, refl, some_is h)

    lift : {a b : List (List ℕ) × List Bool} → Settles (run d files q.state) (wakes d files) a b → length a.1 ≡ length d.procs → ((i : ℕ) → is_pending a.1 i ≡ true → comb_at d i ≡ true) → Lifted a b
    lift {a} {b} (rests e) m only =
        let n : first_pending 0 a.1 ≡ None = none_is a.0 a.1 (first_pending 0 a.1) e in
        record { calms = acts.calm (real_none d.procs a.1 0 n); calm = n; many = m; only = only; settles = λ h r s. s }
    lift {a} {b} (goes {r = x} e s) m only =
        let f = some_by a.0 a.1 x (first_pending 0 a.1) e in
        let g = real_first d.procs a.1 0 f.0 m f.1 in
        let z : f.0 ≡ g.0 = omega (arith, g.1) in
        let c : comb_at d f.0 ≡ true = rw z (only g.0 g.2) in
        let first : real.first_pending d.procs a.1 ≡ Some (proc_at d f.0) = rw z g.3 in
        let long : length x.1 ≡ length d.procs = rw (← f.2) (woken_length (wakes d files a.0 (run d files q.state f.0 a.0)) 0 (first_done a.1) ∙ done_length a.1 ∙ m) in
        let kept : (i : ℕ) → is_pending x.1 i ≡ true → comb_at d i ≡ true = λ i h. now f.0 x f.2 i h in
        let rest : Lifted x b = lift s long kept in
        let step : evaluated d files (with_values q a.0 a.1) (proc_at d f.0) ≡ with_values q x.0 x.1 =
        same_step a.0 a.1 f.0 c m ∙ ap {A = List (List ℕ) × List Bool} {B = Queue} (λ y. with_values q y.0 y.1) f.2 in
        record {
          calms = acts.goes first (rw step rest.calms);
          calm = rest.calm;
          many = rest.many;
          only = rest.only;
          settles = λ h r t. alone.goes (next_behind (with_values q a.0 a.1) alive h (Some (proc_at d f.0)) first ∙ ap (λ y. Some y) step) (rest.settles h r t);
        }
      where
        now : (p : ℕ) (x : List (List ℕ) × List Bool) → ((run d files q.state p a.0, woken (wakes d files a.0 (run d files q.state p a.0)) 0 (first_done a.1)) ≡ x) → (i : ℕ) → is_pending x.1 i ≡ true → comb_at d i ≡ true
        now p x k i h =
            let g : is_pending (woken (wakes d files a.0 (run d files q.state p a.0)) 0 (first_done a.1)) i ≡ true = subst (λ (y : List (List ℕ) × List Bool). is_pending y.1 i ≡ true) (sym k) h in
            elim (woken_only (wakes d files a.0 (run d files q.state p a.0)) 0 (first_done a.1) i g) [
              | inl j ↦ only i (done_only a.1 i j)
              | inr j ↦ let z : 0 + i ≡ i = omega arith in (and_true (comb_at d i) _ (subst (λ m. wakes d files a.0 (run d files q.state p a.0) m ≡ true) z j)).0
            ]

-- ---- a ready queue calms

module _ (d : Flat) (files : List File) (acc : IsAccepted d) (order : List ℕ) (o : IsOrder d order) where
  pub record Calming (q : Queue) : Type 0 where
    pub calmed : Calmed d files q
    pub ready : IsReady d files (with_values q calmed.values calmed.pending)
    pub pass : calmed.values ≡ pass (run d files q.state) order q.state.values
    -- behind a wave the queue settles as the calm one does
    pub settles : IsBehind q.phase → (r : Queue) → alone.Settles d files (with_values q calmed.values calmed.pending) r → alone.Settles d files q r

  pub calming : (q : Queue) → q.state.finished ≡ false → IsReady d files q → Calming q
  calming q alive ready =
      let laws : Laws d files q.state = lawful d files acc q.state alive in
      let w : Waits (IsFine d.rows) (run d files q.state) (length d.procs) (q.state.values, q.pending) = record { fine = ready.fine; many = ready.many; each = ready.each } in
      let r = S.settles laws order (placed_order d o) (q.state.values, q.pending) w in
      let l : Lifted d files acc q alive (q.state.values, q.pending) r.r = lift d files acc q alive r.settles ready.many ready.only in
      record {
        calmed = record {
          values = r.r.0;
          pending = r.r.1;
          calms = l.calms;
          calm = record { none = real_none d.procs r.r.1 0 l.calm; solved = r.solved };
        };
        ready = record { fine = r.fine; many = l.many; only = l.only; each = λ i h. inr (r.solved i h) };
        pass = S.as_one_pass laws order (placed_order d o) (q.state.values, q.pending) w;
        settles = l.settles;
      }
