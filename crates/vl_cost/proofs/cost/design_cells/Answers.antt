use Rattle.vl_cost.proofs.Summing.{cells-are, slice-loopless}
use Rattle.vl_cost.proofs.cost.design_cells.Goals as goal

pub processes_cells-requires : goal.processes_cells-requires
processes_cells-requires c = slice-loopless c.args.design.now c.requires.unrolled c.as_slice-2.result.now c.as_slice-2.ensures

pub returns : goal.returns
returns c =
    cells-are c.args.design.now c.requires.unrolled c.args.bodies.now c.requires.bodies c.as_slice.result.now c.as_slice-2.result.now c.signal_cells.result c.plus-rows.result c.processes_cells.result c.plus.result
    c.as_slice.ensures c.as_slice-2.ensures c.signal_cells.ensures c.plus-rows.ensures c.processes_cells.ensures c.plus.ensures
