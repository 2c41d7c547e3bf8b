use Rattle.std.proofs.Common.{length, map}
use Rattle.ten_form.specs.vl_design.specs.Trees.{row_of}
use Rattle.cell_emit.specs.cell_form.specs.Views.{list_of}
use Rattle.cell_waves.proofs.Copying.{Copied}
use Rattle.cell_waves.proofs.copies.copies.Given as goal

abbrev pub invariant-loop-number : goal.invariant-loop-number
invariant-loop-number l = Copied (map row_of l.signals) l.which (length l.signals) l.number (list_of l.fn.cells) (list_of l.cells) l.slots.items
