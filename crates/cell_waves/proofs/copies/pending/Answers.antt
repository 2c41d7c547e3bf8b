use Rattle.std.proofs.Common.{length, map}
use Rattle.ten_form.specs.vl_design.specs.Trees.{row_of}
use Rattle.cell_emit.specs.cell_form.specs.Views.{list_of}
use Rattle.cell_emit.proofs.Frames.{grows-then, longer-then}
use Rattle.cell_emit.specs.Entries.{read_count}
use Rattle.cell_waves.specs.Copies.{HasSignals}
use Rattle.cell_waves.proofs.Copying.{copies-stay}
use Rattle.cell_waves.proofs.copies.pending.Goals as goal

pub returns-clause-grows : goal.returns-clause-grows
returns-clause-grows c =
    grows-then (list_of c.args.cells.now) (list_of c.copies.new.cells) (list_of c.copies-2.new.cells) c.in_ok-update.ensures.grows c.in_ok-mask.ensures.grows

pub returns-clause-longer : goal.returns-clause-longer
returns-clause-longer c =
    let n = read_count (map row_of c.args.signals.now) in
    longer-then (HasSignals (length c.args.signals.now)) n n (list_of c.args.cells.now) (list_of c.copies.new.cells) (list_of c.copies-2.new.cells) c.in_ok-update.ensures.longer c.in_ok-mask.ensures.longer

pub returns-clause-update : goal.returns-clause-update
returns-clause-update c =
    copies-stay (map row_of c.args.signals.now) 5 (list_of c.copies.new.cells) (list_of c.copies-2.new.cells) c.in_ok-update.update.items c.in_ok-mask.ensures.grows c.in_ok-update.ensures.copies
