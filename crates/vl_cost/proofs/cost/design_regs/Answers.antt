use Rattle.vl_cost.proofs.Summing.{regs-are, slice-loopless}
use Rattle.vl_cost.proofs.cost.design_regs.Goals as goal

pub processes_regs-requires : goal.processes_regs-requires
processes_regs-requires c = slice-loopless c.args.design.now c.requires c.as_slice.result.now c.as_slice.ensures

pub returns : goal.returns
returns c =
    regs-are c.args.design.now c.requires c.as_slice-signals.result.now c.as_slice.result.now c.signal_regs.result c.plus-rows.result c.processes_regs.result c.plus.result c.as_slice-signals.ensures c.as_slice.ensures
    c.signal_regs.ensures c.plus-rows.ensures c.processes_regs.ensures c.plus.ensures
