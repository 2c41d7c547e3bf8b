use Rattle.std.proofs.Common.{◌≡◌, ◌≤◌, ◌+◌, drop}
use Rattle.std.specs.Prelude.{slice_index}
use Rattle.vl_design.specs.Cost.{exps_cells, arguments_cells}
use Rattle.vl_design.specs.Trees.{exps_of}
use Rattle.vl_design.specs.Costs.{saturated}
use Rattle.vl_cost.proofs.expressions.+expressions.Given as goal

abbrev pub invariant-exps_cells-loop-e : goal.invariant-exps_cells-loop-e
invariant-exps_cells-loop-e l = record {
  small : l.all ≤ 18446744073709551615;
  rest : saturated (l.all + exps_cells (λ f. slice_index l.bodies f) (exps_of (drop l.e-index l.es))) ≡ saturated (exps_cells (λ f. slice_index l.bodies f) (exps_of l.es));
}

abbrev pub invariant-arguments_cells-loop-e : goal.invariant-arguments_cells-loop-e
invariant-arguments_cells-loop-e l = record {
  small : l.all ≤ 18446744073709551615;
  rest : saturated (l.all + arguments_cells (λ f. slice_index l.bodies f) (exps_of (drop l.e-index l.es))) ≡ saturated (arguments_cells (λ f. slice_index l.bodies f) (exps_of l.es));
}
