use Rattle.std.proofs.Common.{◌≡◌, ℕ, map, take, replicate, slice_set}
use Rattle.vl_design.specs.Seen.{stm_of}
use Rattle.vl_loops.specs.Placed.{stm_unrolled}
use Rattle.vl_loops.specs.Rooms.{rows_of, scope_of, state_of}
use Rattle.vl_unroll.specs.Heads.{AreReady}
use Rattle.vl_unroll.specs.Listed.{item_of, item_unrolled_of, stm_unrolled_of}
use Rattle.vl_unroll.proofs.statements.+unroll.Given as goal

abbrev pub invariant-statements-loop-s : goal.invariant-statements-loop-s
invariant-statements-loop-s l = record {
  kept : l.numbers ≡ l.initial.numbers;
  text : map stm_of l.all.items ≡ map (stm_unrolled_of (scope_of l.room) (state_of l.initial.numbers)) (take l.s-index l.list);
}

abbrev pub invariant-copies-loop-turn : goal.invariant-copies-loop-turn
invariant-copies-loop-turn l = record {
  kept : l.numbers ≡ l.initial.numbers;
  text : map stm_of l.all.items ≡ replicate l._turn (stm_unrolled (scope_of l.room) (stm_of l.body) (state_of l.initial.numbers));
}

abbrev pub invariant-items-loop-one : goal.invariant-items-loop-one
invariant-items-loop-one l = record {
  kept : l.numbers ≡ l.initial.numbers;
  text : map item_of l.all.items ≡ map (item_unrolled_of (scope_of l.room) (state_of l.initial.numbers)) (take l.one-index l.list);
}

abbrev pub invariant-turns-loop-number : goal.invariant-turns-loop-number
invariant-turns-loop-number l = record {
  ready : AreReady (rows_of l.room) l.numbers;
  others : (v : ℕ) → slice_set l.numbers l.variable v ≡ slice_set l.initial.numbers l.variable v;
  text : map stm_of l.all.items ≡ map (λ n. stm_unrolled (scope_of l.room) (stm_of l.body) (state_of (slice_set l.initial.numbers l.variable n))) (take l.number-index l.all_numbers);
}
