use Rattle.std.proofs.Common.{◌≡◌, ◌≤◌, ◌+◌, min, drop}
use Rattle.vl_loops.specs.Limits.{targets_count}
use Rattle.vl_limits.specs.Tallies.{counted_of, targets_of}
use Rattle.vl_limits.proofs.expressions.+targets.Given as goal

abbrev pub invariant-targets_sum-loop-t : goal.invariant-targets_sum-loop-t
invariant-targets_sum-loop-t l = record {
  small : l.all ≤ l.tally.cap;
  rest : min l.tally.cap (l.all + targets_count (counted_of l.tally) (targets_of (drop l.t-index l.ts))) ≡ min l.tally.cap (l.sum + targets_count (counted_of l.tally) (targets_of l.ts));
}
