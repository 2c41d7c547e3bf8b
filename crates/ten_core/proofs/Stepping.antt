-- Behind a cycle or a served call a run goes on running, and fewer acts are to come.
use Rattle.std.proofs.Common.{◌≡◌, ◌<◌, ◌≤◌, ◌+◌, ◌-◌, ◌*◌, ◌^◌, ℕ, suc, Bool, true, false, List, length, Option, Some, None, refl, ap, ◌∙◌, subst, ◌⊎◌, inl, inr, arith}
use Rattle.std.specs.Prelude.{◌&&◌, ◌||◌, not, nat_le, if◌then◌else◌, slice_get}
use Rattle.std.proofs.lemmas.Bool.{leb-false, cases_lt}
use Rattle.std.proofs.lemmas.Nat.{mul-le}
use Rattle.vl_design.specs.Alone.{Origin, first_tick, stop_at}
use Rattle.vl_design.specs.Functions.{scope_of}
use Rattle.vl_design.specs.State.{State}
use Rattle.vl_design.proofs.Unread.{or_false}
use Rattle.ten_form.specs.sub_nodes.specs.Code.{table_of}
use Rattle.ten_form.specs.sub_nodes.specs.Cycles.{Stage, is_trap, rises, cycled, served_by}
use Rattle.ten_form.specs.sub_nodes.specs.Nodes.{Node, Table}
use Rattle.ten_form.specs.sub_nodes.specs.Stands.{at_trap, Comes, cycles, serves}
use Rattle.ten_form.specs.sub_nodes.specs.Early.{early_from}
use Rattle.ten_form.specs.sub_nodes.proofs.Leading.{late_leads}
use Rattle.sub_runs.specs.Left.{left, most_left}
use Rattle.sub_runs.proofs.Bounding.{cycle_lowers, serve_lowers, comes_few, acts_few}
use Rattle.sub_runs.proofs.Cycling.{next_in, served_in, cycle_ticks, served_ticks}
use Rattle.sub_runs.proofs.Tabling.{all_few}
use Rattle.ten_form.specs.Nets.{nets_of}
use Rattle.ten_core.specs.Runs.{after_cycle, after_call}
use Rattle.ten_core.specs.Running.{ends_at, goes_on, to_come, IsRunning}
use Rattle.vl_design.specs.vl_base.proofs.Booleans.{not_by_both as on-alive}

-- ---- numbers

lower-in-tick : (b t u m l k : ℕ) → u ≡ t → k < l → (b - u) * m + k < (b - t) * m + l
lower-in-tick b t u m l k e h = let f = ap (λ x. (b - x) * m) e in omega (arith, f)

lower-by-tick : (b t u m l k : ℕ) → u ≡ t + 1 → t < b → k < m → (b - u) * m + k < (b - t) * m + l
lower-by-tick b t u m l k e h few =
    let one : b - t ≡ (b - u) + 1 = omega (arith, e, h) in
    let f = ap (λ x. x * m) one in
    omega (arith, f)

few-acts : (n t c : ℕ) → n ≤ 2 ^ 31 → t ≤ 1000000000 → c ≤ 4 * n * (t + 1) → c + 1 < 2 ^ 64
few-acts n t c h k e =
    let most = mul-le (4 * n) (t + 1) (4 * 2 ^ 31) 1000000001 (omega (arith, h)) (omega (arith, k)) in
    omega (arith, e, most)

-- ---- where a run goes on

on-going : (f r e : Bool) → (not f && (not r || not e)) ≡ true → r ≡ true → e ≡ false
on-going true r e h k = let z : ⊥ = cc in absurd z
on-going false false e h k = let z : ⊥ = cc in absurd z
on-going false true true h k = let z : ⊥ = cc in absurd z
on-going false true false h k = refl

-- ---- steps

module _ (o : Origin) (order : List ℕ) (c : ℕ) (i : Stage) (r : IsRunning o order c i) where
  abbrev T : Table
  T = table_of o.flat

  abbrev nets : State → List (List ℕ)
  nets = nets_of o.flat o.files order

  abbrev budget : ℕ
  budget = o.plan.budget

  -- a stage behind this one, from where fewer acts are to come
  record IsStep (j : Stage) : Type 0 where
    pub late : j.node < early_from o.flat
    pub since : first_tick o.resume ≤ j.state.ticks
    pub within : j.state.ticks ≤ budget
    pub went_on : (k : ℕ) → first_tick o.resume ≤ k → k < j.state.ticks → ends_at o.plan k ≡ false
    pub fewer : to_come o.flat budget j < to_come o.flat budget i

  step-runs : (n : ℕ) (j : Stage) → Comes o T nets n j → IsStep j → IsRunning o order n j
  step-runs n j comes s = record {
    tame = r.tame;
    unrolled = r.unrolled;
    checked = r.checked;
    ordered = r.ordered;
    start = r.start;
    few = r.few;
    budget = r.budget;
    comes = comes;
    late = s.late;
    since = s.since;
    within = s.within;
    went_on = s.went_on;
  }

  in-tick : (j : Stage) → j.node < early_from o.flat → j.state.ticks ≡ i.state.ticks → left T j.node < left T i.node → IsStep j
  in-tick j late same fewer =
      let from = r.since in
      let to = r.within in
      record {
        late = late;
        since = omega (arith, same, from);
        within = omega (arith, same, to);
        went_on = λ k f l. r.went_on k f (omega (arith, l, same));
        fewer = lower-in-tick budget _ _ (most_left T) _ _ same fewer;
      }

  by-tick : (j : Stage) → j.node < early_from o.flat → j.state.ticks ≡ i.state.ticks + 1 → ends_at o.plan i.state.ticks ≡ false → IsStep j
  by-tick j late more going =
      let from = r.since in
      let under = leb-false budget i.state.ticks (or_false (nat_le budget i.state.ticks) (stop_at i.state.ticks o.plan.errands) going).0 in
      record {
        late = late;
        since = omega (arith, more, from);
        within = omega (arith, more, under);
        went_on = λ k f l. before k f l (cases_lt k i.state.ticks);
        fewer = lower-by-tick budget _ _ (most_left T) _ _ more under (all_few o.flat j.node);
      }
    where
      before : (k : ℕ) → first_tick o.resume ≤ k → k < j.state.ticks → (k < i.state.ticks) ⊎ (i.state.ticks ≤ k) → ends_at o.plan k ≡ false
      before k f l (inl h) = r.went_on k f h
      before k f l (inr h) =
          let same : i.state.ticks ≡ k = omega (arith, l, h, more) in
          subst (λ n. ends_at o.plan n ≡ false) same going

  -- ---- cycles

  pub cycle-more : rises (slice_get T.nodes i.node) ≡ true → (after_cycle o order i).state.ticks ≡ i.state.ticks + 1
  cycle-more e = cycle_ticks o.flat o.files nets (slice_get T.nodes i.node) i ∙ rw e refl

  pub cycle-same : rises (slice_get T.nodes i.node) ≡ false → (after_cycle o order i).state.ticks ≡ i.state.ticks
  cycle-same e = cycle_ticks o.flat o.files nets (slice_get T.nodes i.node) i ∙ rw e refl

  module _ (on : goes_on o.plan o.flat i ≡ true) (idle : at_trap T i ≡ false) where
    cycled-late : (x : Option Node) → slice_get T.nodes i.node ≡ x → is_trap x ≡ false → (cycled o.flat o.files nets x i).node < early_from o.flat
    cycled-late None e h = r.late
    cycled-late (Some x) e h = next_in (λ m. m < early_from o.flat) o.flat o.files nets x i h (late_leads o.flat i.node x r.late e)

    cycle-late : (after_cycle o order i).node < early_from o.flat
    cycle-late = cycled-late (slice_get T.nodes i.node) refl idle

    cycle-by : (b : Bool) → rises (slice_get T.nodes i.node) ≡ b → IsStep (after_cycle o order i)
    cycle-by true e =
        by-tick (after_cycle o order i) cycle-late (cycle-more e)
        (on-going i.state.finished (rises (slice_get T.nodes i.node)) (ends_at o.plan i.state.ticks) on e)
    cycle-by false e =
        in-tick (after_cycle o order i) cycle-late (cycle-same e) (cycle_lowers o.flat o.files nets i (comes_few o nets r.comes).within idle e)

    cycle-step : IsStep (after_cycle o order i)
    cycle-step = cycle-by (rises (slice_get T.nodes i.node)) refl

    pub cycle-runs : IsRunning o order (if at_trap T (after_cycle o order i) then c else suc c) (after_cycle o order i)
    cycle-runs =
        let alive = on-alive i.state.finished (rises (slice_get T.nodes i.node)) (ends_at o.plan i.state.ticks) on in
        step-runs _ (after_cycle o order i) (cycles r.comes alive idle) cycle-step

    pub cycle-fewer : to_come o.flat budget (after_cycle o order i) < to_come o.flat budget i
    cycle-fewer = cycle-step.fewer

  -- ---- served calls

  pub call-same : (after_call o i).state.ticks ≡ i.state.ticks
  call-same = served_ticks (scope_of o.flat o.files) (slice_get T.nodes i.node) i

  module _ (waits : at_trap T i ≡ true) where
    served-late : (x : Option Node) → slice_get T.nodes i.node ≡ x → is_trap x ≡ true → (served_by (scope_of o.flat o.files) x i).node < early_from o.flat
    served-late None e h = let z : ⊥ = cc in absurd z
    served-late (Some x) e h = served_in (λ m. m < early_from o.flat) (scope_of o.flat o.files) x i h (late_leads o.flat i.node x r.late e)

    call-step : IsStep (after_call o i)
    call-step =
        in-tick (after_call o i) (served-late (slice_get T.nodes i.node) refl waits) call-same
        (serve_lowers o.flat (scope_of o.flat o.files) i waits)

    pub call-runs : IsRunning o order (suc c) (after_call o i)
    call-runs = step-runs (suc c) (after_call o i) (serves r.comes waits) call-step

    pub call-fewer : to_come o.flat budget (after_call o i) < to_come o.flat budget i
    call-fewer = call-step.fewer

  -- ---- counts

  pub ticks-fit : i.state.ticks + 1 < 2 ^ 32
  ticks-fit = let w = r.within in let b = r.budget in omega (arith, w, b)

  pub acts-fit : c + 1 < 2 ^ 64
  acts-fit =
      let w = r.within in
      let b = r.budget in
      few-acts (length T.nodes) i.state.ticks c r.few (omega (arith, w, b)) (acts_few o nets r.comes)
