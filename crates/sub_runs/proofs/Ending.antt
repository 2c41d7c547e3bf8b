-- Where a run of a table has finished, or has spent its budget, the run alone has ended.
use Rattle.std.proofs.Common.{◌≡◌, ℕ, ◌+◌, ◌<◌, ◌≤◌, Bool, true, false, List, [], Option, None, refl, sym, ◌∙◌, ap, subst, arith, ◌⊎◌, inl, inr}
use Rattle.std.specs.Prelude.{if◌then◌else◌, nat_le, slice_get}
use Rattle.std.proofs.lemmas.Bool.{lt-leb, le-leb, cases_lt}
use Rattle.vl_sites.specs.vl_design.specs.declared.design.End.TheVariants.{Finished, Budget}
use Rattle.vl_sites.specs.vl_design.specs.Syntax.{Task}
use Rattle.vl_sites.specs.vl_design.specs.Functions.{scope_of}
use Rattle.vl_sites.specs.vl_design.specs.State.{State}
use Rattle.vl_sites.specs.vl_design.specs.Queue.{Queue}
use Rattle.vl_sites.specs.vl_design.specs.Snapshots.{Snapshot}
use Rattle.vl_sites.specs.vl_design.specs.Alone.{Origin, Boundary, begun, ticked, first_tick, reason_at, Ends}
use Rattle.vl_sites.specs.vl_design.specs.Acts.{Point, state_at, queue_at, at_boundary, tick_of, Calms, calm, goes, Begins, from_nothing, from_snapshot, After, begins, acts, Before, before}
use Rattle.vl_sites.specs.vl_design.specs.Laws.{IsUnrolled, HasQuietNets}
use Rattle.vl_sites.specs.vl_design.proofs.Counting.{count_is}
use Rattle.vl_sites.specs.vl_design.proofs.Settling.{boundary_once}
use Rattle.vl_sites.specs.vl_design.proofs.Returning.{exec_ticks, at_boundary_is, finished_is}
use Rattle.vl_runs.proofs.Logic.{never}
use Rattle.vl_runs.proofs.Passing.{act_ticks}
use Rattle.vl_runs.proofs.Standing.{before_a_call}
use Rattle.sub_nodes.specs.Nodes.{Table}
use Rattle.sub_nodes.specs.Cycles.{Stage, is_trap, rises}
use Rattle.sub_nodes.specs.Stands.{Stands, CanRun, Comes, IsAt, at_trap}
use Rattle.sub_nodes.proofs.Beginning.{stands_rise}
use Rattle.sub_nodes.proofs.Runs.{comes_at}

-- ---- the boundaries before

module _ (o : Origin) (u : IsUnrolled o.flat) (quiet : HasQuietNets o.flat) where
  calms_ticks : {q r : Queue} → Calms o.flat o.files q r → r.state.ticks ≡ q.state.ticks
  calms_ticks (calm e) = refl
  calms_ticks (goes {q = q} {p = p} e c) = calms_ticks c ∙ sym (exec_ticks (scope_of o.flat o.files) p.body q.state)

  first_ticks : {s : Option Snapshot} {p : Point} → Begins o s p → (state_at p).ticks ≡ first_tick s
  first_ticks from_nothing = refl
  first_ticks (from_snapshot c) = calms_ticks c

  first_below : {j : ℕ} {b : Queue} → Boundary o j b → first_tick o.resume ≤ j
  first_below (begun e s) = omega arith
  first_below (ticked x s) = let f = first_below x in omega arith

  acted : {c j : ℕ} {p : Point} {b : Queue} (n : ℕ) → After o c p → (state_at p).finished ≡ false → Boundary o j b → j < n → (z : Bool) → at_boundary p ≡ z
      → n ≡ (if z then (state_at p).ticks + 1 else (state_at p).ticks) → (j < (state_at p).ticks → b.state.finished ≡ false) → b.state.finished ≡ false
  acted n x f y l false e t k = k (omega arith)
  acted {j = j} {p = p} {b = b} n x f y l true e t k = at (cases_lt j (state_at p).ticks)
    where
      at : (j < (state_at p).ticks) ⊎ ((state_at p).ticks ≤ j) → b.state.finished ≡ false
      at (inl h) = k h
      at (inr h) =
          let tick : tick_of p ≡ (state_at p).ticks = rw f (rw e refl) in
          let same : tick_of p ≡ j = omega arith in
          let it : b ≡ queue_at p = boundary_once y (subst (λ n. Boundary o n (queue_at p)) same (at_boundary_is o u quiet p x e)) in
          ap (λ q. q.state.finished) it ∙ f

  -- at no boundary of an earlier tick the run has finished, since the run has gone on from it
  before_alive : {c j : ℕ} {p : Point} {b : Queue} → After o c p → Boundary o j b → j < (state_at p).ticks → b.state.finished ≡ false
  before_alive (begins g) y l = let e = first_ticks g in let f = first_below y in let z : ⊥ = omega arith in absurd z
  before_alive (acts {p = p} {p' = r} x f a) y l = acted (state_at r).ticks x f y l (at_boundary p) refl (act_ticks o.flat o.files f a) (λ h. before_alive x y h)

  none_before : {c j : ℕ} {p : Point} {b : Queue} → o.plan.errands ≡ [] → After o c p → (state_at p).ticks ≤ o.plan.budget → Boundary o j b
      → j < (state_at p).ticks → reason_at o.plan j b ≡ None
  none_before {j = j} none x m y l =
      let few : nat_le o.plan.budget j ≡ false = lt-leb o.plan.budget j (omega arith) in
      rw (before_alive x y l) (rw few (rw none refl))

-- ---- the end

module _ (o : Origin) (T : Table) (nets : State → List (List ℕ)) (r : CanRun o T nets) (quiet : HasQuietNets o.flat) (none : o.plan.errands ≡ []) where
  -- before a call the run goes on
  alive : {c : ℕ} {task : Task} {p : Point} → Before o c task p → (state_at p).finished ≡ false
  alive (before task q rest from committed a n) = (before_a_call o r.unrolled quiet q rest from committed (before task q rest from committed a n)).running

  pub finished_ends : {c : ℕ} {i : Stage} → Comes o T nets c i → i.state.finished ≡ true → i.state.ticks ≤ o.plan.budget
      → (q : Queue) × Ends o i.state.ticks Finished q × (q.state ≡ i.state)
  finished_ends {c} {i} x f m = at (comes_at o T nets r x)
    where
      at : IsAt o T c i → (q : Queue) × Ends o i.state.ticks Finished q × (q.state ≡ i.state)
      at (inl a) =
          let p : Point = a.0 in
          let s : Stands T i p = a.2 in
          let over : (state_at p).finished ≡ true = ap (λ z. z.finished) (sym s.state) ∙ f in
          let ticks : i.state.ticks ≡ (state_at p).ticks = ap (λ z. z.ticks) s.state in
          let few : (state_at p).ticks ≤ o.plan.budget = omega arith in
          let tick : tick_of p ≡ (state_at p).ticks = rw over refl in
          let b = finished_is o r.unrolled quiet p a.1 over in
          let same : b.0.state ≡ i.state = b.2 ∙ sym s.state in
          let at : Boundary o i.state.ticks b.0 = subst (λ k. Boundary o k b.0) (tick ∙ sym ticks) b.1 in
          let done : b.0.state.finished ≡ true = ap (λ z. z.finished) same ∙ f in
          (b.0, record { at = at; why = rw done refl; first = λ j e l y. none_before o r.unrolled quiet none a.1 (omega (arith, few)) y (omega (arith, ticks)) }, same)
      at (inr b) = never (ap (λ z. z.finished) (sym b.3.state) ∙ f) (alive b.2)

  pub budget_ends : {c : ℕ} {i : Stage} → Comes o T nets c i → i.state.finished ≡ false → rises (slice_get T.nodes i.node) ≡ true
      → i.state.ticks ≡ o.plan.budget
      → (q : Queue) × Ends o i.state.ticks Budget q × (q.state ≡ i.state)
  budget_ends {c} {i} x f h t = at (comes_at o T nets r x)
    where
      at : IsAt o T c i → (q : Queue) × Ends o i.state.ticks Budget q × (q.state ≡ i.state)
      at (inl a) =
          let p : Point = a.0 in
          let s : Stands T i p = a.2 in
          let there : at_boundary p ≡ true = sym (stands_rise o.flat T r.table s) ∙ h in
          let on : (state_at p).finished ≡ false = ap (λ z. z.finished) (sym s.state) ∙ f in
          let ticks : i.state.ticks ≡ (state_at p).ticks = ap (λ z. z.ticks) s.state in
          let few : (state_at p).ticks ≤ o.plan.budget = omega arith in
          let tick : tick_of p ≡ (state_at p).ticks = rw on (rw there refl) in
          let at : Boundary o i.state.ticks (queue_at p) = subst (λ k. Boundary o k (queue_at p)) (tick ∙ sym ticks) (at_boundary_is o r.unrolled quiet p a.1 there) in
          let spent : nat_le o.plan.budget i.state.ticks ≡ true = le-leb o.plan.budget i.state.ticks (omega arith) in
          (queue_at p, record { at = at; why = rw on (rw spent refl); first = λ j e l y. none_before o r.unrolled quiet none a.1 (omega (arith, few)) y (omega (arith, ticks)) }, sym s.state)
      at (inr b) = let z : ◌≡◌ true false = sym h ∙ ap rises b.3.trap in let y : ⊥ = cc in absurd y

  -- as many acts are counted as are done, unless a call is next
  pub running_counts : {c : ℕ} {i : Stage} → Comes o T nets c i → at_trap T i ≡ false → i.state.count ≡ c
  running_counts {c} {i} x h = at (comes_at o T nets r x)
    where
      at : IsAt o T c i → i.state.count ≡ c
      at (inl a) = ap (λ z. z.count) a.2.state ∙ count_is o r.unrolled quiet c a.0 a.1
      at (inr b) = never (ap is_trap b.3.trap) h

  pub finished_counts : {c : ℕ} {i : Stage} → Comes o T nets c i → i.state.finished ≡ true → i.state.count ≡ c
  finished_counts {c} {i} x f = at (comes_at o T nets r x)
    where
      at : IsAt o T c i → i.state.count ≡ c
      at (inl a) = ap (λ z. z.count) a.2.state ∙ count_is o r.unrolled quiet c a.0 a.1
      at (inr b) = never (ap (λ z. z.finished) (sym b.3.state) ∙ f) (alive b.2)
