use Rattle.std.proofs.Common.{◌≡◌, ◌≤◌, ◌+◌, map, drop}
use Rattle.std.specs.Prelude.{slice_index}
use Rattle.vl_design.specs.Calls.{finish_of}
use Rattle.vl_design.specs.Cost.{exps_cells}
use Rattle.vl_design.specs.Trees.{arg_of}
use Rattle.vl_design.specs.Costs.{saturated}
use Rattle.vl_cost.proofs.tasks.finish_cells.Given as goal

abbrev pub invariant-loop-a : goal.invariant-loop-a
invariant-loop-a l = record {
  small : l.all ≤ 18446744073709551615;
  rest : saturated (l.all + exps_cells (λ f. slice_index l.bodies f) (finish_of (map arg_of (drop l.a-index l.given)))) ≡ saturated (8 + exps_cells (λ f. slice_index l.bodies f) (finish_of (map arg_of l.given)));
}
