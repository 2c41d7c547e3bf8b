-- Where a run rests, the run alone is at a boundary, in the same state; and where it has a reason to end there, it ends there.
use Rattle.std.proofs.Common.{◌≡◌, ◌<◌, ℕ, Bool, true, false, List, [], Option, Some, None, refl, arith}
use Rattle.std.specs.Prelude.{◌||◌, if◌then◌else◌, nat_le, slice_get}
use Rattle.vl_design.specs.declared.design.End.{End}
use Rattle.vl_design.specs.declared.design.End.TheVariants.{Finished, Budget}
use Rattle.vl_design.specs.Alone.{Origin, Plan, Boundary, begun, ticked, Ends, reason_at, stop_at}
use Rattle.vl_design.specs.Laws.{HasQuietNets}
use Rattle.vl_design.specs.Queue.{Queue}
use Rattle.vl_design.specs.State.{State}
use Rattle.vl_design.proofs.Settling.{at_first}
use Rattle.vl_design.proofs.Unread.{or_false}
use Rattle.ten_form.specs.vl_runs.proofs.Onward.{checked_quiet}
use Rattle.ten_form.specs.sub_nodes.specs.Code.{table_of}
use Rattle.ten_form.specs.sub_nodes.specs.Cycles.{Stage, is_trap, rises}
use Rattle.ten_form.specs.sub_nodes.specs.Nodes.{Node, Run, Trap, Apply, Table}
use Rattle.ten_form.specs.sub_nodes.specs.Stands.{CanRun, Comes, begins, cycles, serves}
use Rattle.sub_runs.proofs.Ending.{finished_ends, budget_ends, running_counts, finished_counts}
use Rattle.ten_form.specs.Nets.{nets_of}
use Rattle.ten_core.specs.Running.{is_at_rest, IsRunning}
use Rattle.vl_design.specs.vl_base.proofs.Booleans.{or_other_true as rest-rises}

-- ---- a run comes to the same stages and boundaries with another plan

abbrev with_plan : Origin → Plan → Origin
with_plan o plan = record o { plan = plan }

module _ (o : Origin) (plan : Plan) where
  comes-with : {T : Table} {nets : State → List (List ℕ)} {c : ℕ} {i : Stage} → Comes o T nets c i → Comes (with_plan o plan) T nets c i
  comes-with begins = begins
  comes-with (cycles x f h) = cycles (comes-with x) f h
  comes-with (serves x h) = serves (comes-with x) h

  boundary-with : {k : ℕ} {q : Queue} → Boundary o k q → Boundary (with_plan o plan) k q
  boundary-with (begun e s) = begun e s
  boundary-with (ticked x s) = ticked (boundary-with x) s

  boundary-back : {k : ℕ} {q : Queue} → Boundary (with_plan o plan) k q → Boundary o k q
  boundary-back (begun e s) = begun e s
  boundary-back (ticked x s) = ticked (boundary-back x) s

-- ---- where it rests

-- where the clock rises next no call is
no-call : (x : Option Node) → rises x ≡ true → is_trap x ≡ false
no-call None h = let z : ⊥ = cc in absurd z
no-call (Some (Run g on)) h = refl
no-call (Some (Trap task to)) h = let z : ⊥ = cc in absurd z
no-call (Some (Apply to)) h = let z : ⊥ = cc in absurd z

-- what has no reason to end hasn't finished
no-finish : (f : Bool) (other : Option End) → (if f then Some Finished else other) ≡ None → f ≡ false
no-finish true other h = let z : ⊥ = cc in absurd z
no-finish false other h = refl

module _ (o : Origin) (order : List ℕ) (c : ℕ) (i : Stage) (r : IsRunning o order c i) (rest : is_at_rest o.flat i ≡ true) where
  abbrev T : Table
  T = table_of o.flat

  abbrev nets : State → List (List ℕ)
  nets = nets_of o.flat o.files order

  -- with just as many ticks as have begun, and no errand
  abbrev spent : Plan
  spent = record { budget = i.state.ticks; errands = [] }

  abbrev pub other : Origin
  other = with_plan o spent

  module _ (can : CanRun other T nets) where
    comes : Comes other T nets c i
    comes = comes-with o spent r.comes

    quiet : HasQuietNets o.flat
    quiet = checked_quiet o.flat r.checked

    up : i.state.finished ≡ false → rises (slice_get T.nodes i.node) ≡ true
    up f = rest-rises i.state.finished (rises (slice_get T.nodes i.node)) rest f

    -- so it ends here
    record HasEnded : Type 0 where
      pub end : End
      pub queue : Queue
      pub ends : Ends other i.state.ticks end queue
      pub same : queue.state ≡ i.state

    ended-by : (f : Bool) → i.state.finished ≡ f → HasEnded
    ended-by true f = let x = finished_ends other T nets can quiet refl comes f (omega arith) in record { end = Finished; queue = x.0; ends = x.1; same = x.2 }
    ended-by false f = let x = budget_ends other T nets can quiet refl comes f (up f) refl in record { end = Budget; queue = x.0; ends = x.1; same = x.2 }

    ended : HasEnded
    ended = ended-by i.state.finished refl

    counted-by : (f : Bool) → i.state.finished ≡ f → i.state.count ≡ c
    counted-by true f = finished_counts other T nets can quiet refl comes f
    counted-by false f = running_counts other T nets can quiet refl comes (no-call (slice_get T.nodes i.node) (up f))

    none-before : (j : ℕ) (b : Queue) → j < i.state.ticks → Boundary o j b → reason_at o.plan j b ≡ None
    none-before j b l y =
        let alive = no-finish b.state.finished _ (ended.ends.first j b l (boundary-with o spent y)) in
        let going = or_false (nat_le o.plan.budget j) (stop_at j o.plan.errands) (r.went_on j (at_first y) l) in
        rw alive (rw going.0 (rw going.1 refl))

    pub rests-at : (q : Queue) × Boundary o i.state.ticks q × (q.state ≡ i.state)
    rests-at = (ended.queue, boundary-back o spent ended.ends.at, ended.same)

    pub rest-counts : i.state.count ≡ c
    rest-counts = counted-by i.state.finished refl

    pub rest-ends : (q : Queue) (end : End) → Boundary o i.state.ticks q → reason_at o.plan i.state.ticks q ≡ Some end → Ends o i.state.ticks end q
    rest-ends q end at why = record { at = at; why = why; first = none-before }
