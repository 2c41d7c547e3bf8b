use Rattle.std.proofs.Common.{◌≡◌, ◌≤◌, ◌+◌, drop}
use Rattle.std.specs.Prelude.{slice_index}
use Rattle.vl_design.specs.Cost.{targets_cells}
use Rattle.vl_limits.specs.Tallies.{targets_of}
use Rattle.vl_design.specs.Costs.{saturated}
use Rattle.vl_cost.proofs.expressions.+targets.Given as goal

abbrev pub invariant-targets_cells-loop-t : goal.invariant-targets_cells-loop-t
invariant-targets_cells-loop-t l = record {
  small : l.all ≤ 18446744073709551615;
  rest : saturated (l.all + targets_cells (λ f. slice_index l.bodies f) (targets_of (drop l.t-index l.ts))) ≡ saturated (targets_cells (λ f. slice_index l.bodies f) (targets_of l.ts));
}
