use Rattle.ten_form.specs.vl_design.specs.Trees.{flat_of}
use Rattle.cell_emit.specs.cell_form.specs.Views.{list_of}
use Rattle.cell_waves.specs.Copies.{marked_one}
use Rattle.cell_waves.proofs.Updating.{Updated}
use Rattle.cell_waves.proofs.update.applied.Given as goal

abbrev pub invariant-loop-number : goal.invariant-loop-number
invariant-loop-number l = Updated (flat_of l.design).rows (marked_one l.delayed) l.number (list_of l.fn.cells) (list_of l.cells) l.values.items
