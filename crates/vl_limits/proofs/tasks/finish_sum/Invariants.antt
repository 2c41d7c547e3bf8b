use Rattle.std.proofs.Common.{◌≡◌, ◌+◌, ◌≤◌, min, map, drop}
use Rattle.vl_design.specs.Calls.{finish_of}
use Rattle.vl_design.specs.Trees.{arg_of}
use Rattle.vl_loops.specs.Limits.{exps_count}
use Rattle.vl_limits.specs.Tallies.{counted_of}
use Rattle.vl_limits.proofs.tasks.finish_sum.Given as goal

abbrev pub invariant-loop-a : goal.invariant-loop-a
invariant-loop-a l = record {
  small : l.all ≤ l.tally.cap;
  rest : min l.tally.cap (l.all + exps_count (counted_of l.tally) (finish_of (map arg_of (drop l.a-index l.given)))) ≡ min l.tally.cap (l.sum + exps_count (counted_of l.tally) (finish_of (map arg_of l.given)));
}
