use Rattle.std.proofs.Common.{map, take}
use Rattle.ten_form.specs.vl_design.specs.Trees.{row_of}
use Rattle.cell_emit.specs.cell_form.specs.Views.{list_of}
use Rattle.cell_waves.specs.Reading.{Reads}
use Rattle.cell_waves.proofs.read.read.Given as goal

abbrev pub invariant-loop-store : goal.invariant-loop-store
invariant-loop-store l = Reads (map row_of l.signals) (take l.store-index l.stores) (list_of l.fn.cells) (list_of l.cells) l.fn.sites.items l.sites.items
