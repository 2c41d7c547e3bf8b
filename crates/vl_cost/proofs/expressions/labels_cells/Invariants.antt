use Rattle.std.proofs.Common.{◌≡◌, ◌≤◌, ◌+◌, drop}
use Rattle.std.specs.Prelude.{slice_index}
use Rattle.vl_design.specs.Cost.{labels_cells}
use Rattle.vl_design.specs.Trees.{exps_of}
use Rattle.vl_design.specs.Costs.{saturated}
use Rattle.vl_cost.proofs.expressions.labels_cells.Given as goal

abbrev pub invariant-loop-e : goal.invariant-loop-e
invariant-loop-e l = record {
  small : l.all ≤ 18446744073709551615;
  rest : saturated (l.all + labels_cells (λ f. slice_index l.fn.bodies f) (exps_of (drop l.e-index l.es))) ≡ saturated (labels_cells (λ f. slice_index l.fn.bodies f) (exps_of l.es));
}
