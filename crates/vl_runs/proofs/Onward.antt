-- From each point of a run act by act that has not finished an act leads on; that at the end of a wave, or with an update, leads
-- to the values of one pass.
use Rattle.std.proofs.Common.{◌≡◌, ℕ, zero, suc, ◌+◌, ◌≤◌, Bool, true, false, List, [], ◌∷◌, Option, Some, None, refl, sym, ◌∙◌, ap, subst, arith}
use Rattle.std.specs.Prelude.{All, slice_index_or}
use Rattle.std.proofs.lemmas.List.Elements.{All-nil, All-cons}
use Rattle.vl_paths.specs.vl_design.specs.Syntax.{Proc, Flat}
use Rattle.vl_paths.specs.vl_design.specs.State.{counted}
use Rattle.vl_paths.specs.vl_design.specs.Tasks.{called}
use Rattle.vl_paths.specs.vl_design.specs.Functions.{scope_of}
use Rattle.vl_paths.specs.vl_design.specs.Queue.{Queue, Wave, Ended, Updated, wave_ended, updates_done, is_comb, is_init, is_rise, is_fall}
use Rattle.vl_paths.specs.vl_design.specs.Snapshots.{Snapshot}
use Rattle.vl_paths.specs.vl_design.specs.Alone.{Origin, start, blocks, falls, first_queue}
use Rattle.vl_paths.specs.vl_design.specs.Acts as act
use Rattle.vl_paths.specs.vl_design.specs.Acts.{Point, Between, Inside, state_at, queue_at, entered, entered_by, Reached, Completes, Calls, Chooses, reach, Calms, Did, Act, of_wave, updates, Begins, from_nothing, from_snapshot, After, acts}
use Rattle.vl_paths.specs.vl_design.specs.Laws.{StartsFine, can_act, IsUnrolled, HasQuietNets}
use Rattle.vl_paths.specs.vl_design.proofs.Agreeing.{alive}
use Rattle.vl_runs.specs.Nets.{pass}
use Rattle.vl_runs.specs.NetsOfSettle.{run}
use Rattle.vl_runs.specs.Checked.{IsChecked, IsOrder}
use Rattle.vl_runs.specs.Runs.{Comes, begins, with_values, Calmed}
use Rattle.vl_runs.proofs.Checks.{accepted}
use Rattle.vl_runs.proofs.Calming.{idle, calming}
use Rattle.vl_runs.proofs.Reaching.{comes_steady}
use Rattle.vl_runs.specs.Blocks.{Stage, at_start, at_end, at_update}
use Rattle.vl_runs.proofs.Standing.{between, inside, wave_comes, update_comes}

-- ---- the combinational processes of a checked design are quiet

quiet_all : (ps : List Proc) → ((i : ℕ) → is_comb (slice_index_or ps i idle).kind ≡ true → can_act (slice_index_or ps i idle).body ≡ false) →
    All (λ (p : Proc). is_comb p.kind ≡ true → can_act p.body ≡ false) ps
quiet_all [] h = All-nil (λ (p : Proc). is_comb p.kind ≡ true → can_act p.body ≡ false)
quiet_all (p ∷ ps) h = All-cons (λ (p : Proc). is_comb p.kind ≡ true → can_act p.body ≡ false) p ps (h zero) (quiet_all ps (λ i. h (suc i)))

pub checked_quiet : (d : Flat) → IsChecked d → HasQuietNets d
checked_quiet d c = record { quiet = quiet_all d.procs c.quiet }

module _ (o : Origin) (checked : IsChecked o.flat) (u : IsUnrolled o.flat) (order : List ℕ) (ord : IsOrder o.flat order) (fine : StartsFine o.flat.rows o.resume) where
  quiet : HasQuietNets o.flat
  quiet = checked_quiet o.flat checked

  -- from a queue that the run comes to evaluations lead to the values of one pass
  abbrev pub OnePass : Queue → Type 0
  OnePass q = (c : Calmed o.flat o.files q) × (c.values ≡ pass (run o.flat o.files q.state) order q.state.values)

  pub one_pass : (q : Queue) → Comes o q → q.state.finished ≡ false → OnePass q
  one_pass q c f =
      let r = calming o.flat o.files (accepted o.flat checked) order ord q f (comes_steady o (accepted o.flat checked) order ord fine c f).ready in
      (r.calmed, r.pass)

  pub wave_passes : {n : ℕ} (p : Point) (left : List Proc) (q : Queue) → After o n p → (state_at p).finished ≡ false → (queue_at (entered o.flat o.files p)).phase ≡ Wave left
      → reach o.flat o.files (entered o.flat o.files p) left ≡ Completes q
      → (c : Calmed o.flat o.files (wave_ended q)) × (c.values ≡ pass (run o.flat o.files (wave_ended q).state) order q.state.values) × Act o.flat o.files p (Between (with_values (wave_ended q) c.values c.pending))
  wave_passes p left q a f e r =
      let w = wave_comes o u quiet p left q a f e r in
      let c = one_pass (wave_ended q) w.0 w.1 in
      let d : Did o.flat o.files (Completes q) (Between (with_values (wave_ended q) c.0.values c.0.pending)) = (with_values (wave_ended q) c.0.values c.0.pending, c.0.calms, refl) in
      (c.0, c.1, of_wave left e (subst (λ m. Did o.flat o.files m (Between (with_values (wave_ended q) c.0.values c.0.pending))) (sym r) d))

  pub update_passes : {n : ℕ} (q : Queue) → After o n (Between q) → q.phase ≡ Ended
      → (c : Calmed o.flat o.files (updates_done o.flat o.files q)) × (c.values ≡ pass (run o.flat o.files (updates_done o.flat o.files q).state) order (updates_done o.flat o.files q).state.values)
      × Act o.flat o.files (Between q) (Between (with_values (updates_done o.flat o.files q) c.values c.pending))
  update_passes q a e =
      let s = between o u quiet q a in
      let c = one_pass (updates_done o.flat o.files q) (update_comes o u quiet q a e) s.1 in
      (c.0, c.1, updates e c.0.calms)

  -- ---- an act leads on

  wave_next : {n : ℕ} (p : Point) (left : List Proc) → After o n p → (state_at p).finished ≡ false → (queue_at (entered o.flat o.files p)).phase ≡ Wave left → (r : Point) × Act o.flat o.files p r
  wave_next p left a f e = at (reach o.flat o.files (entered o.flat o.files p) left) refl
    where
      at : (m : Reached) → reach o.flat o.files (entered o.flat o.files p) left ≡ m → (r : Point) × Act o.flat o.files p r
      at (Completes q) h = let x = wave_passes p left q a f e h in (_, x.2)
      at (Calls task q rest from committed) h = (
        Inside (record q { state = called (scope_of o.flat o.files) task q.state }) rest from committed,
        of_wave left e (subst (λ m. Did o.flat o.files m (Inside (record q { state = called (scope_of o.flat o.files) task q.state }) rest from committed)) (sym h) refl),
      )
      at (Chooses q rest from committed) h = (
        Inside (record q { state = counted q.state }) rest from committed,
        of_wave left e (subst (λ m. Did o.flat o.files m (Inside (record q { state = counted q.state }) rest from committed)) (sym h) refl),
      )

  -- the wave that begins behind an update
  entered_wave : (q : Queue) (ahead : List (List Proc)) → q.state.finished ≡ false → (left : List Proc) × ((entered_by o.flat o.files q Updated ahead).phase ≡ Wave left)
  entered_wave q [] f =
      let up : Queue = record q { state = record (q.state) { ticks = q.state.ticks + 1; saves = [] }; phase = Wave (blocks is_rise o.flat.procs); ahead = falls (blocks is_fall o.flat.procs) } in
      (blocks is_rise o.flat.procs, ap (λ z. z.phase) (alive q.state.finished q up f))
  entered_wave q (w ∷ ws) f = (w, refl)

  pub goes_on : {n : ℕ} (p : Point) → After o n p → (state_at p).finished ≡ false → (r : Point) × Act o.flat o.files p r
  goes_on (Between q) a f = at (between o u quiet q a).2
    where
      at : Stage o q → (r : Point) × Act o.flat o.files (Between q) r
      at (at_start e same) = wave_next (Between q) (blocks is_init o.flat.procs) a f (ap (λ z. (queue_at (entered o.flat o.files (Between z))).phase) same)
      at (at_end e n) = let x = update_passes q a e in (_, x.2)
      at (at_update e n) = let w = entered_wave q q.ahead f in wave_next (Between q) w.0 a f (ap (λ x. (entered_by o.flat o.files q x q.ahead).phase) e ∙ w.1)
  goes_on (Inside q rest from committed) a f = let s = inside o u quiet q rest from committed a in wave_next (Inside q rest from committed) s.1.left a f s.1.phase

  -- after so many acts the run is at a point, or it has finished after fewer
  pub record Far (n : ℕ) : Type 0 where
    pub count : ℕ
    pub point : Point
    pub within : count ≤ n
    pub after : After o count point
    pub all : (state_at point).finished ≡ false → count ≡ n

  first_point : (s : Option Snapshot) → o.resume ≡ s → (p : Point) × Begins o s p
  first_point None e = (Between (start o.flat), from_nothing)
  first_point (Some s) e =
      let c = one_pass (first_queue o (Some s)) (subst (λ z. Comes o (first_queue o z)) e begins) refl in
      (Between (with_values (first_queue o (Some s)) c.0.values c.0.pending), from_snapshot c.0.calms)

  further : (n : ℕ) → (f : Far n) → (b : Bool) → (state_at f.point).finished ≡ b → Far (suc n)
  further n f true e = record { count = f.count; point = f.point; within = let w = f.within in omega arith; after = f.after; all = λ h. let z : ⊥ = cc in absurd z }
  further n f false e =
      let same = f.all e in
      let x = goes_on f.point f.after e in
      record { count = suc n; point = x.0; within = omega arith; after = acts (subst (λ k. After o k f.point) same f.after) e x.1; all = λ h. refl }

  pub far : (n : ℕ) → Far n
  far zero = let x = first_point o.resume refl in record { count = zero; point = x.0; within = omega arith; after = act.begins x.1; all = λ h. refl }
  far (suc n) = let f = far n in further n f (state_at f.point).finished refl
