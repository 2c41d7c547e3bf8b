-- What a run has printed on its way is a front of what the run alone has printed where it ends: by the acts that are still to come.
use Rattle.std.proofs.Common.{◌≡◌, ◌<◌, ℕ, zero, suc, Bool, true, false, List, [], ◌++◌, Some, None, refl, sym, ap, ◌∙◌, append_assoc, append-nil, arith}
use Rattle.std.specs.Prelude.{◌&&◌, ◌||◌, not, if◌then◌else◌, nat_le, slice_get}
use Rattle.vl_design.specs.declared.design.End.{End}
use Rattle.vl_design.specs.declared.design.End.TheVariants.{Finished, Budget, Stopped}
use Rattle.vl_design.specs.Alone.{Origin, Boundary, Ends, reason_at, stop_at}
use Rattle.vl_design.specs.Functions.{scope_of}
use Rattle.vl_design.specs.Laws.{Grows}
use Rattle.vl_design.specs.Queue.{Queue}
use Rattle.ten_form.specs.sub_nodes.specs.Code.{table_of}
use Rattle.ten_form.specs.sub_nodes.specs.Cycles.{Stage, rises}
use Rattle.ten_form.specs.sub_nodes.specs.Stands.{at_trap}
use Rattle.ten_form.specs.Nets.{nets_of}
use Rattle.ten_core.specs.Runs.{after_cycle, after_call}
use Rattle.ten_core.specs.Running.{ends_at, goes_on, is_at_rest, to_come, IsRunning}
use Rattle.ten_core.specs.Fronts.{IsFront}
use Rattle.ten_core.proofs.Growing.{cycle_grows, serve_grows}
use Rattle.vl_design.specs.vl_base.proofs.Booleans.{or_unless_both as off-rests}

-- what holds of runs on their way, where they rest, and where they end
pub record RunsEnd : Type 0 where
  pub cycle : (o : Origin) (order : List ℕ) (c : ℕ) (i : Stage) → IsRunning o order c i → goes_on o.plan o.flat i ≡ true → at_trap (table_of o.flat) i ≡ false →
      IsRunning o order (if at_trap (table_of o.flat) (after_cycle o order i) then c else suc c) (after_cycle o order i)
  pub call : (o : Origin) (order : List ℕ) (c : ℕ) (i : Stage) → IsRunning o order c i → at_trap (table_of o.flat) i ≡ true → IsRunning o order (suc c) (after_call o i)
  pub cycle_nearer : (o : Origin) (order : List ℕ) (c : ℕ) (i : Stage) → IsRunning o order c i → goes_on o.plan o.flat i ≡ true → at_trap (table_of o.flat) i ≡ false →
      to_come o.flat o.plan.budget (after_cycle o order i) < to_come o.flat o.plan.budget i
  pub call_nearer : (o : Origin) (order : List ℕ) (c : ℕ) (i : Stage) → IsRunning o order c i → at_trap (table_of o.flat) i ≡ true →
      to_come o.flat o.plan.budget (after_call o i) < to_come o.flat o.plan.budget i
  pub boundary : (o : Origin) (order : List ℕ) (c : ℕ) (i : Stage) → IsRunning o order c i → is_at_rest o.flat i ≡ true →
      (q : Queue) × Boundary o i.state.ticks q × (q.state ≡ i.state)
  pub ends : (o : Origin) (order : List ℕ) (c : ℕ) (i : Stage) (q : Queue) (end : End) → IsRunning o order c i → is_at_rest o.flat i ≡ true →
      Boundary o i.state.ticks q → reason_at o.plan i.state.ticks q ≡ Some end → Ends o i.state.ticks end q
  pub once : (o : Origin) (j k : ℕ) (r s : End) (a b : Queue) → Ends o j r a → Ends o k s b → (j ≡ k) × (r ≡ s) × (a ≡ b)

-- ---- where a run doesn't go on

off-reason : (f r b s : Bool) → (not f && (not r || not (b || s))) ≡ false → (end : End) × ((if f then Some Finished else if b then Some Budget else if s then Some Stopped else None) ≡ Some end)
off-reason true r b s h = (Finished, refl)
off-reason false true true s h = (Budget, refl)
off-reason false true false true h = (Stopped, refl)
off-reason false true false false h = let z : ⊥ = cc in absurd z
off-reason false false b s h = let z : ⊥ = cc in absurd z

-- what has grown from a front to one is one
front_before : (o : Origin) (i j : Stage) → Grows i.state j.state → IsFront o j → IsFront o i
front_before o i j g h k end q e =
    let f = h k end q e in
    (g.more ++ f.0, f.1 ∙ (ap (λ x. x ++ f.0) g.grown ∙ append_assoc i.state.printed g.more f.0))

module _ (law : RunsEnd) (o : Origin) (order : List ℕ) where
  -- here it ends, and it has printed all
  ended_front : (c : ℕ) (i : Stage) → IsRunning o order c i → goes_on o.plan o.flat i ≡ false → IsFront o i
  ended_front c i r off k end q e =
      let rising = rises (slice_get (table_of o.flat).nodes i.node) in
      let rests = off-rests i.state.finished rising (ends_at o.plan i.state.ticks) off in
      let b = law.boundary o order c i r rests in
      let why = off-reason i.state.finished rising (nat_le o.plan.budget i.state.ticks) (stop_at i.state.ticks o.plan.errands) off in
      let reason : reason_at o.plan i.state.ticks b.0 ≡ Some why.0
      = ap (λ s. if s.finished then Some Finished else if nat_le o.plan.budget i.state.ticks then Some Budget else if stop_at i.state.ticks o.plan.errands then Some Stopped else None) b.2 ∙ why.1 in
      let here = law.ends o order c i b.0 why.0 r rests b.1 reason in
      let same : q ≡ b.0 = (law.once o k i.state.ticks end why.0 q b.0 e here).2 in
      ([], ap (λ x. x.state.printed) same ∙ (ap (λ s. s.printed) b.2 ∙ sym (append-nil i.state.printed)))

  -- it is one where it is one behind each act, from where fewer acts are to come
  front_from : (n c : ℕ) (i : Stage) → IsRunning o order c i → to_come o.flat o.plan.budget i < suc n →
      ((k : ℕ) (j : Stage) → IsRunning o order k j → to_come o.flat o.plan.budget j < n → IsFront o j) → IsFront o i
  front_from n c i r fewer behind = by_call (at_trap (table_of o.flat) i) refl
    where
      by_cycle : at_trap (table_of o.flat) i ≡ false → (on : Bool) → goes_on o.plan o.flat i ≡ on → IsFront o i
      by_cycle idle true on =
          let less = law.cycle_nearer o order c i r on idle in
          let next = after_cycle o order i in
          front_before o i next (cycle_grows o.flat o.files (nets_of o.flat o.files order) (slice_get (table_of o.flat).nodes i.node) i)
          (behind (if at_trap (table_of o.flat) next then c else suc c) next (law.cycle o order c i r on idle) (omega (arith, less, fewer)))
      by_cycle idle false off = ended_front c i r off

      by_call : (waits : Bool) → at_trap (table_of o.flat) i ≡ waits → IsFront o i
      by_call true waits =
          let less = law.call_nearer o order c i r waits in
          front_before o i (after_call o i) (serve_grows (scope_of o.flat o.files) (slice_get (table_of o.flat).nodes i.node) i)
          (behind (suc c) (after_call o i) (law.call o order c i r waits) (omega (arith, less, fewer)))
      by_call false idle = by_cycle idle (goes_on o.plan o.flat i) refl

  front_within : (n c : ℕ) (i : Stage) → IsRunning o order c i → to_come o.flat o.plan.budget i < n → IsFront o i
  front_within zero c i r fewer = absurd (omega (arith, fewer))
  front_within (suc n) c i r fewer = front_from n c i r fewer (front_within n)

  pub always_front : (c : ℕ) (i : Stage) → IsRunning o order c i → IsFront o i
  always_front c i r = front_within (suc (to_come o.flat o.plan.budget i)) c i r (omega arith)
