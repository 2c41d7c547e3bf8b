-- The ticks at which tenants end.
use Rattle.std.proofs.Common.{◌≡◌, ◌⊎◌, inl, inr, ℕ, suc, ◌<◌, ◌≤◌, Bool, true, false, nat_le, if◌then◌else◌, List, map, Option, Some, None, refl, sym, subst, ap, ◌∙◌, arith}
use Rattle.std.proofs.lemmas.Bool.{le-leb, leb-true, leb-false}
use Rattle.host_text.specs.vl_design.specs.declared.design.End.{End}
use Rattle.host_text.specs.vl_design.specs.declared.design.End.TheVariants.{Finished, Budget, Stopped}
use Rattle.host_text.specs.vl_design.specs.Cost.{cost}
use Rattle.host_text.specs.vl_design.specs.Queue.{Queue}
use Rattle.host_text.specs.vl_design.specs.Alone.{Plan, Origin, Boundary, begun, ticked, first_tick, stop_at, reason_at}
use Rattle.host_text.specs.vl_design.specs.Snapshots as run
use Rattle.host_text.specs.vl_design.specs.Syntax.{Flat}
use Rattle.host_text.specs.vl_design.proofs.Settling.{at_first}
use Rattle.host_text.specs.vl_base.specs.declared.files.File.{File}
use Rattle.host_text.specs.declared.script.FabricLine.{FabricLine}
use Rattle.host_text.specs.ten_plan.specs.Plans.{errand_of}
use Rattle.host_form.specs.Origins.{Tenant, Starts, anew, resumed}
use Rattle.host_form.specs.Histories.{Histories}
use Rattle.host_form.specs.Orders.{Answered, stop_of}
use Rattle.host_form.specs.Runs.{IsEnd, alone, stopped, Run, IsRun}
use Rattle.host_form.proofs.Plans.{plan-stops}

-- ---- boundaries before another

abbrev At : Origin → ℕ → Type 0
At o j = (q : Queue) × Boundary o j q

earlier : {o : Origin} {k : ℕ} {q : Queue} (j : ℕ) → first_tick o.resume ≤ j → j ≤ k → Boundary o k q → At o j
earlier {o} {k} {q} j a b (begun e s) = let same : k ≡ j = omega (arith, a, b, e) in subst (At o) same (q, begun e s)
earlier {o} {k} {q} j a b (ticked {k = i} p s) = by (nat_le j i) refl (λ l. earlier j a l p)
  where
    by : (t : Bool) → nat_le j i ≡ t → (j ≤ i → At o j) → At o j
    by true e before = before (leb-true j i e)
    by false e before = let past = leb-false j i e in let same : suc i ≡ j = omega (arith, past, b) in subst (At o) same (q, ticked p s)

-- where the budget is spent there is a reason to end
spent : (plan : Plan) (q : Queue) → reason_at plan plan.budget q ≡ None → ⊥
spent plan q e = by q.state.finished (nat_le plan.budget plan.budget) (le-leb plan.budget plan.budget (omega arith)) e
  where
    by : (f t : Bool) → t ≡ true → (if f then Some Finished else if t then Some Budget else if stop_at plan.budget plan.errands then Some Stopped else None) ≡ None → ⊥
    by true t h e = let z : ⊥ = cc in z
    by false true h e = let z : ⊥ = cc in z
    by false false h e = let z : ⊥ = cc in z

not_past : {o : Origin} {k : ℕ} {q : Queue} → first_tick o.resume ≤ o.plan.budget → Boundary o k q → ((j : ℕ) (b : Queue) → j < k → Boundary o j b → reason_at o.plan j b ≡ None) → k ≤ o.plan.budget
not_past {o} {k} {q} a at first = by (nat_le k o.plan.budget) refl
  where
    by : (t : Bool) → nat_le k o.plan.budget ≡ t → k ≤ o.plan.budget
    by true e = leb-true k o.plan.budget e
    by false e =
        let past = leb-false k o.plan.budget e in
        let there = earlier o.plan.budget a (omega (arith, past)) at in
        absurd (spent o.plan there.0 (first o.plan.budget there.0 past there.1))

pub starts_within : {d : Flat} {files : List File} {budget : ℕ} {bytes : Option (List ℕ)} {start : Option run.Snapshot} → Starts d files budget bytes start → first_tick start ≤ budget
starts_within anew = omega arith
starts_within (resumed s e l) = l

ends_within : {o : Origin} {stop : Option ℕ} {k : ℕ} {reason : End} {q : Queue} → first_tick o.resume ≤ o.plan.budget → IsEnd o stop k reason q → (first_tick o.resume ≤ k) × (k ≤ o.plan.budget)
ends_within a (alone n e) = (at_first e.at, not_past a e.at e.first)
ends_within a (stopped n r b w) = (at_first b, not_past a b (λ j q l x. w j q (omega (arith, l)) x))

pub within-budget : (fabrics : List FabricLine) (histories : Histories) (answers : List Answered) (n : ℕ) (t : Tenant) (r : Run) → IsRun fabrics histories answers n t r
    → (first_tick r.origin.resume ≤ r.tick) × (r.tick ≤ t.line.budget)
within-budget fabrics histories answers n t r h =
    let budget : r.origin.plan.budget ≡ t.line.budget = ap (λ (p : Plan). p.budget) h.origin.plan in
    let starts : first_tick r.origin.resume ≤ r.origin.plan.budget = subst (λ b. first_tick r.origin.resume ≤ b) (sym budget) (starts_within h.origin.start) in
    let both = ends_within starts h.end in
    (both.0, subst (λ b. r.tick ≤ b) budget both.1)

-- ---- stops

stop_is : (plan : Plan) (k : ℕ) (q : Queue) → reason_at plan k q ≡ Some Stopped → stop_at k plan.errands ≡ true
stop_is plan k q e = by q.state.finished (nat_le plan.budget k) (stop_at k plan.errands) refl e
  where
    by : (f t s : Bool) → stop_at k plan.errands ≡ s → (if f then Some Finished else if t then Some Budget else if s then Some Stopped else None) ≡ Some Stopped → stop_at k plan.errands ≡ true
    by true t s h e = let z : ⊥ = cc in absurd z
    by false true s h e = let z : ⊥ = cc in absurd z
    by false false true h e = h
    by false false false h e = let z : ⊥ = cc in absurd z

stop_by : {o : Origin} {stop : Option ℕ} {k : ℕ} {reason : End} {q : Queue} → IsEnd o stop k reason q → reason ≡ Stopped → (stop ≡ Some k) ⊎ (stop_at k o.plan.errands ≡ true)
stop_by {o} {stop} {k} {reason} {q} (alone n e) r = inr (stop_is o.plan k q (e.why ∙ ap (λ (x : End). Some x) r))
stop_by (stopped n r b w) s = inl n

pub has-stop : (fabrics : List FabricLine) (histories : Histories) (answers : List Answered) (n : ℕ) (t : Tenant) (r : Run) → IsRun fabrics histories answers n t r → r.reason ≡ Stopped
    → (stop_of n answers ≡ Some r.tick) ⊎ (stop_at r.tick (map errand_of t.line.errands) ≡ true)
has-stop fabrics histories answers n t r h e = by (stop_by h.end e)
  where
    by : (stop_of n answers ≡ Some r.tick) ⊎ (stop_at r.tick r.origin.plan.errands ≡ true) → (stop_of n answers ≡ Some r.tick) ⊎ (stop_at r.tick (map errand_of t.line.errands) ≡ true)
    by (inl x) = inl x
    by (inr x) = inr (sym (ap (λ (p : Plan). stop_at r.tick p.errands) h.origin.plan ∙ plan-stops fabrics (cost r.origin.flat) t.line r.tick) ∙ x)
