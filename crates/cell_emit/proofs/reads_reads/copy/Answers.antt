use Rattle.vl_sites.specs.vl_design.specs.Trees.{row_of}
use Rattle.cell_form.specs.Views.{list_of}
use Rattle.cell_emit.proofs.Reading.{copy-gives}
use Rattle.cell_emit.proofs.reads_reads.copy.Goals as goal

pub returns-in_ok-slot-in-Some-clause-copies : goal.returns-in_ok-slot-in-Some-clause-copies
returns-in_ok-slot-in-Some-clause-copies c w =
    copy-gives (list_of c.args.cells.now) (list_of c.register.new.cells) c.in-Some.width (row_of c.args.signal.now).width c.args.register c.in_ok-slot-in-Some.slot
    c.in-Some.ensures.within.0 c.in_ok-slot-in-Some.ensures.gives
