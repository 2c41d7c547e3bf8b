use Rattle.std.proofs.Common.{◌≡◌, ◌≤◌, ◌+◌, min, drop}
use Rattle.vl_design.specs.Trees.{exps_of}
use Rattle.vl_loops.specs.Limits.{exps_count}
use Rattle.vl_limits.specs.Tallies.{counted_of}
use Rattle.vl_limits.proofs.expressions.+expressions.Given as goal

abbrev pub invariant-exps_sum-loop-e : goal.invariant-exps_sum-loop-e
invariant-exps_sum-loop-e l = record {
  small : l.all ≤ l.tally.cap;
  rest : min l.tally.cap (l.all + exps_count (counted_of l.tally) (exps_of (drop l.e-index l.es))) ≡ min l.tally.cap (l.sum + exps_count (counted_of l.tally) (exps_of l.es));
}
