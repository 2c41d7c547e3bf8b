use Rattle.std.proofs.Common.{map}
use Rattle.vl_sites.specs.vl_design.specs.Trees.{row_of}
use Rattle.cell_form.specs.Views.{list_of}
use Rattle.cell_emit.proofs.Reading.{Entered}
use Rattle.cell_emit.proofs.reads_reads.entries.Given as goal

abbrev pub invariant-loop-number : goal.invariant-loop-number
invariant-loop-number l = Entered (map row_of l.signals) l.places l.number (list_of l.fn.cells) (list_of l.cells) l.entries.items
