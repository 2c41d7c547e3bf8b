use Rattle.std.proofs.Common.{◌≡◌, ◌≤◌, ◌+◌, ℕ, min, drop, slice_set}
use Rattle.std.specs.Prelude.{All, sum_by}
use Rattle.vl_design.specs.Seen.{stm_of, stms_of}
use Rattle.vl_loops.specs.Limits.{stm_count, stms_count, items_count}
use Rattle.vl_loops.specs.Loops.{HaveHeads, ItemsHaveHeads}
use Rattle.vl_loops.specs.Rooms.{rows_of, scope_of, state_of, AreNumbers}
use Rattle.vl_limits.specs.Tallies.{counted_of}
use Rattle.vl_limits.specs.Walks.{items_of}
use Rattle.vl_limits.proofs.statements.+statements.Given as goal

abbrev pub invariant-stms_sum-loop-a : goal.invariant-stms_sum-loop-a
invariant-stms_sum-loop-a l =
    record {
      small : l.all ≤ l.tally.cap;
      kept : l.numbers ≡ l.initial.numbers;
      heads : HaveHeads (rows_of l.room) (stms_of (drop l.a-index l.parts));
      rest : min l.tally.cap (l.all + stms_count (counted_of l.tally) (scope_of l.room) (stms_of (drop l.a-index l.parts)) (state_of l.initial.numbers)) ≡ min l.tally.cap (l.sum + stms_count (counted_of l.tally) (scope_of l.room) (stms_of l.parts) (state_of l.initial.numbers));
    }

abbrev pub invariant-items_sum-loop-one : goal.invariant-items_sum-loop-one
invariant-items_sum-loop-one l =
    record {
      small : l.all ≤ l.tally.cap;
      kept : l.numbers ≡ l.initial.numbers;
      heads : ItemsHaveHeads (rows_of l.room) (items_of (drop l.one-index l.items));
      rest : min l.tally.cap (l.all + items_count (counted_of l.tally) (scope_of l.room) (items_of (drop l.one-index l.items)) (state_of l.initial.numbers)) ≡ min l.tally.cap (l.sum + items_count (counted_of l.tally) (scope_of l.room) (items_of l.items) (state_of l.initial.numbers));
    }

abbrev pub invariant-turns_sum-loop-number : goal.invariant-turns_sum-loop-number
invariant-turns_sum-loop-number l =
    record {
      small : l.all ≤ l.tally.cap;
      others : (v : ℕ) → slice_set l.numbers l.variable v ≡ slice_set l.initial.numbers l.variable v;
      fits : All (λ v. AreNumbers (rows_of l.room) (slice_set l.initial.numbers l.variable v)) l.turns;
      rest : min l.tally.cap (l.all + sum_by (λ v. stm_count (counted_of l.tally) (scope_of l.room) (stm_of l.body) (state_of (slice_set l.initial.numbers l.variable v))) (drop l.number-index l.turns))
          ≡ min l.tally.cap (l.sum + sum_by (λ v. stm_count (counted_of l.tally) (scope_of l.room) (stm_of l.body) (state_of (slice_set l.initial.numbers l.variable v))) l.turns);
    }
