use Rattle.std.proofs.Common.{◌≡◌, ◌≤◌, ◌+◌, [], drop}
use Rattle.vl_design.specs.Plainly.{items}
use Rattle.vl_design.specs.Seen as seen
use Rattle.vl_design.specs.Trees.{then_of}
use Rattle.vl_limits.specs.Walks.{items_of}
use Rattle.vl_design.specs.Costs.{saturated}
use Rattle.vl_cost.specs.Walks.{cells_of, item_cells_of, HaveNoLoop, ItemsHaveNoLoop}
use Rattle.vl_cost.proofs.statements.+statements.Given as goal

abbrev pub invariant-stms_cells-loop-a : goal.invariant-stms_cells-loop-a
invariant-stms_cells-loop-a l = record {
  small : l.all ≤ 18446744073709551615;
  loopless : HaveNoLoop (seen.stms_of (drop l.a-index l.parts));
  rest : saturated (l.all + cells_of l.bodies (then_of [] (drop l.a-index l.parts))) ≡ saturated (cells_of l.bodies (then_of [] l.parts));
}

abbrev pub invariant-items_cells-loop-one : goal.invariant-items_cells-loop-one
invariant-items_cells-loop-one l = record {
  small : l.all ≤ 18446744073709551615;
  loopless : ItemsHaveNoLoop (items_of (drop l.one-index l.given));
  rest : saturated (l.all + item_cells_of l.bodies (items [] (items_of (drop l.one-index l.given)))) ≡ saturated (item_cells_of l.bodies (items [] (items_of l.given)));
}
