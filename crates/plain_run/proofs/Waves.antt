-- Waves, and the nets and updates behind them.
use Rattle.std.proofs.Common.{◌≡◌, ◌<◌, ◌+◌, ℕ, Bool, true, false, List, [], ◌∷◌, map, length, drop, get_or, Some, refl, sym, ap, ◌∙◌, subst}
use Rattle.vl_eval.specs.vl_base.specs.declared.files.File.{File}
use Rattle.vl_eval.specs.vl_design.specs.declared.design.Process.{Process}
use Rattle.vl_eval.specs.vl_design.specs.declared.design.ProcKind.{ProcKind}
use Rattle.vl_eval.specs.vl_design.specs.Syntax.{Proc, Flat}
use Rattle.vl_eval.specs.vl_design.specs.State.{State, counted}
use Rattle.vl_eval.specs.vl_design.specs.Exec.{exec}
use Rattle.vl_eval.specs.vl_design.specs.Functions.{scope_of}
use Rattle.vl_eval.specs.vl_design.specs.Queue.{Queue, Phase, Wave, Ended, Updated, next, executed, wave_ended, updates_done, with_updates}
use Rattle.vl_eval.specs.vl_design.specs.Alone.{Settles, blocks}
use Rattle.vl_eval.specs.vl_design.specs.Trees.{stm_of, proc_of}
use Rattle.vl_run.specs.declared.machine.Machine.{Machine}
use Rattle.vl_run.specs.Machines.{state_of, Does}
use Rattle.vl_runs.specs.Nets.{pass}
use Rattle.vl_runs.specs.NetsOfSettle.{run}
use Rattle.vl_runs.specs.Checked.{IsChecked, IsOrder}
use Rattle.vl_runs.specs.Runs.{Comes, Calmed, with_values}
use Rattle.vl_runs.proofs.Steady.{IsAccepted, IsSteady}
use Rattle.vl_runs.proofs.Checks.{accepted}
use Rattle.vl_runs.proofs.Calming.{IsBehind, Calming, calming}
use Rattle.vl_runs.proofs.Reaching.{comes_steady}
use Rattle.plain_run.specs.Runs.{over, IsAt, IsQuietAt, StandsBehind, Passes, Reaches, RunsWave, SettlesAs}
use Rattle.plain_run.proofs.Bodies.{blocks-more, blocks-taken, blocks-passed}
use Rattle.plain_run.proofs.Passing.{passes-finished}
use Rattle.plain_run.proofs.Events.{next-block, next-end, next-update, calms-come, calms-precede}

module _ (d : Flat) (files : List File) where
  -- ---- one event

  pub alive-at : (first : Queue) (P : Queue → Type 0) (m : Machine) → (x : StandsBehind d files first P m) → m.finished ≡ false → x.queue.state.finished ≡ false
  alive-at first P m x f = ap {A = State} {B = Bool} (λ s. s.finished) (x.state) ∙ f

  pub by-event : (first : Queue) (P Q : Queue → Type 0) (m n : Machine) (c : ℕ) (r : Queue) (x : StandsBehind d files first P m) →
      next d files x.queue ≡ Some r → r.state ≡ state_of n c → Q r → StandsBehind d files first Q n
  by-event first P Q m n c r x e s h = record {
    queue = r;
    count = c;
    state = s;
    there = h;
    comes = Comes.goes x.comes e;
    leads = λ q t. x.leads q (Settles.goes e t);
  }

  -- ---- blocks

  pub reaches-here : (bs : List Proc) (m : Machine) → Reaches d files bs m bs m
  reaches-here bs m = record { leads = λ first waves x. x }

  reaches-more : (from : List Proc) (m : Machine) (b : Proc) (bs : List Proc) (n o : Machine) → n.finished ≡ false → Reaches d files from m (b ∷ bs) n → Does (scope_of d files) b.body n o → Reaches d files from m bs o
  reaches-more from m b bs n o f h does = record {
    leads = λ first waves y.
        let x : StandsBehind d files first (IsAt (Wave (b ∷ bs)) waves) n = h.leads first waves y in
        let z = does.leads x.count in
        let at : IsAt (Wave (b ∷ bs)) waves x.queue = x.there in
        let state : exec (scope_of d files) b.body x.queue.state ≡ state_of o z.0 = ap {A = State} {B = State} (exec (scope_of d files) b.body) (x.state) ∙ z.1 in
        by-event first (IsAt (Wave (b ∷ bs)) waves) (IsAt (Wave bs) waves) n o z.0 (executed d files x.queue b bs) x
        (next-block d files x.queue b bs (alive-at first (IsAt (Wave (b ∷ bs)) waves) n x f) at.phase) state (record { phase = refl; ahead = at.ahead });
  }

  -- a process that doesn't belong to the wave is passed over
  pub wave-passed : (t : ProcKind → Bool) (xs : List Process) (i : ℕ) (x : Process) (from : List Proc) (m n : Machine) → i < length xs → x ≡ get_or xs i x → t x.kind ≡ false
      → Reaches d files from m (blocks t (map proc_of (drop i xs))) n → Reaches d files from m (blocks t (map proc_of (drop (i + 1) xs))) n
  wave-passed t xs i x from m n h e f l =
      let same = blocks-more t xs i x h e ∙ blocks-passed t (proc_of x) (map proc_of (drop (i + 1) xs)) f in
      subst (λ (w : List Proc). Reaches d files from m w n) same l

  -- one that belongs to it is run
  pub wave-run : (t : ProcKind → Bool) (xs : List Process) (i : ℕ) (x : Process) (from : List Proc) (m n o : Machine) → n.finished ≡ false → i < length xs → x ≡ get_or xs i x → t x.kind ≡ true
      → Reaches d files from m (blocks t (map proc_of (drop i xs))) n → Does (scope_of d files) (stm_of x.path x.body) n o → Reaches d files from m (blocks t (map proc_of (drop (i + 1) xs))) o
  wave-run t xs i x from m n o go h e is l does =
      let same = blocks-more t xs i x h e ∙ blocks-taken t (proc_of x) (map proc_of (drop (i + 1) xs)) is in
      let here = subst (λ (w : List Proc). Reaches d files from m w n) same l in
      reaches-more from m _ _ n o go here does

  -- ---- behind a wave

  ends : (first : Queue) (waves : List (List Proc)) (m : Machine) → m.finished ≡ false → StandsBehind d files first (IsAt (Wave []) waves) m → StandsBehind d files first (IsAt Ended waves) m
  ends first waves m f x =
      let at : IsAt (Wave []) waves x.queue = x.there in
      by-event first (IsAt (Wave []) waves) (IsAt Ended waves) m m (x.count + 1) (wave_ended x.queue) x
      (next-end d files x.queue (alive-at first (IsAt (Wave []) waves) m x f) at.phase) (ap {A = State} {B = State} counted (x.state)) (record { phase = refl; ahead = at.ahead })

  updates : (first : Queue) (waves : List (List Proc)) (m n : Machine) → m.finished ≡ false → ((c : ℕ) → with_updates d.rows (state_of m c) ≡ state_of n c) →
      StandsBehind d files first (IsQuietAt d Ended waves) m → StandsBehind d files first (IsAt Updated waves) n
  updates first waves m n f u x =
      let at : IsQuietAt d Ended waves x.queue = x.there in
      let state : counted (with_updates d.rows x.queue.state) ≡ state_of n (x.count + 1) =
      ap {A = State} {B = State} (λ s. counted (with_updates d.rows s)) (x.state) ∙ ap {A = State} {B = State} counted (u x.count) in
      by-event first (IsQuietAt d Ended waves) (IsAt Updated waves) m n (x.count + 1) (updates_done d files x.queue) x
      (next-update d files x.queue waves (alive-at first (IsQuietAt d Ended waves) m x f) at) state (record { phase = refl; ahead = at.place.ahead })

  -- evaluations lead to the machine behind a pass
  calms : (order : List ℕ) → IsChecked d → IsOrder d order → (first : Queue) (at : Phase) (waves : List (List Proc)) (m n : Machine) → IsBehind at → m.finished ≡ false → Passes d files order m n →
      StandsBehind d files first (IsAt at waves) m → StandsBehind d files first (IsQuietAt d at waves) n
  calms order checked ord first at waves m n b f p x =
      let there : IsAt at waves x.queue = x.there in
      let alive : x.queue.state.finished ≡ false = alive-at first (IsAt at waves) m x f in
      let acc : IsAccepted d = accepted d checked in
      let steady : IsSteady d files x.queue = comes_steady (over d files 0) acc order ord tt x.comes alive in
      let r : Calming d files acc order ord x.queue = calming d files acc order ord x.queue alive steady.ready in
      let c : Calmed d files x.queue = r.calmed in
      let behind : IsBehind x.queue.phase = subst IsBehind (sym there.phase) b in
      let values : c.values ≡ pass (run d files x.queue.state) order x.queue.state.values = r.pass in
      let state : (with_values x.queue c.values c.pending).state ≡ state_of n x.count =
      ap {A = List (List ℕ)} {B = State} (λ v. record (x.queue.state) { values = v }) values
      ∙ ap {A = State} {B = State} (λ s. record s { values = pass (run d files s) order s.values }) (x.state)
      ∙ sym (p x.count) in
      record {
        queue = with_values x.queue c.values c.pending;
        count = x.count;
        state = state;
        there = record { place = record { phase = there.phase; ahead = there.ahead }; none = c.calm.none };
        comes = calms-come d files c.calms alive behind x.comes;
        leads = λ q s. x.leads q (calms-precede d files c.calms alive behind q s);
      }

  -- the nets, the update, and the nets again
  pub all-updated : (order : List ℕ) → IsChecked d → IsOrder d order → (m n o p : Machine) → m.finished ≡ false → Passes d files order m n →
      ((c : ℕ) → with_updates d.rows (state_of n c) ≡ state_of o c) → Passes d files order o p → SettlesAs d files [] m p
  all-updated order checked ord m n o p f before u behind =
      let g : n.finished ≡ false = passes-finished d files order m n before ∙ f in
      let h : o.finished ≡ false = sym (ap {A = State} {B = Bool} (λ s. s.finished) (u 0)) ∙ g in
      record {
        leads = λ first waves x.
            let y = calms order checked ord first Ended waves m n tt f before (ends first waves m f x) in
            let z = calms order checked ord first Updated waves o p tt h behind (updates first waves n o g u y) in
            record { queue = z.queue; count = z.count; state = z.state; there = λ _. z.there; comes = z.comes; leads = z.leads };
      }

  -- ---- a wave and its update

  pub settles-updated : (from : List Proc) (m n o : Machine) → n.finished ≡ false → RunsWave d files from m n → SettlesAs d files [] n o → SettlesAs d files from m o
  settles-updated from m n o f w u = record {
    leads = λ first waves x.
        let y = subst (λ (left : List Proc). StandsBehind d files first (IsAt (Wave left) waves) n) (w.over f) (w.reaches.leads first waves x) in
        u.leads first waves y;
  }

  -- one that comes to a `$finish` settles there
  pub settles-finished : (from : List Proc) (m n : Machine) → n.finished ≡ true → RunsWave d files from m n → SettlesAs d files from m n
  settles-finished from m n f w = record {
    leads = λ first waves x.
        let y = w.reaches.leads first waves x in
        record { queue = y.queue; count = y.count; state = y.state; there = λ g. (let z : ⊥ = cc in absurd z); comes = y.comes; leads = y.leads };
  }
