use Rattle.std.proofs.Common.{◌≡◌, map, take}
use Rattle.trap_runtime.specs.cell_form.specs.Views.{cell_of}
use Rattle.fab_join.specs.Laid.{shape_of_span}
use Rattle.fab_join.specs.Numbers.{behind, numbered_cell}
use Rattle.fab_join.proofs.numbers.cells_at.Given as goal

abbrev pub invariant-loop-cell : goal.invariant-loop-cell
invariant-loop-cell l = map cell_of l.all.items ≡ map (numbered_cell (behind (shape_of_span l.place))) (map cell_of (take l.cell-index l.cells))
