use Rattle.std.proofs.Common.{◌≡◌, ◌+◌, map, drop}
use Rattle.std.specs.Prelude.{slice_index}
use Rattle.vl_design.specs.Trees.{arg_of}
use Rattle.vl_design.specs.Costs.{saturated}
use Rattle.vl_cost.specs.Displays.{shown_cells}
use Rattle.vl_cost.proofs.displays.display_cells.Given as goal

abbrev pub invariant-loop-a : goal.invariant-loop-a
invariant-loop-a l =
    saturated (l.all.cells + shown_cells (λ f. slice_index l.fn.bodies f) l.all.taken (map arg_of (drop l.a-index l.given))) ≡ saturated (8 + shown_cells (λ f. slice_index l.fn.bodies f) 0 (map arg_of l.given))
