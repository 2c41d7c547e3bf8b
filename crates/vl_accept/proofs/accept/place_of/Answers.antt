use Rattle.vl_accept.proofs.Loops.{process-is, is-loop-at}
use Rattle.vl_accept.proofs.accept.place_of.Goals as goal

pub bounds-as_slice-first : goal.bounds-as_slice-first
bounds-as_slice-first c = process-is c.args.design.now c.args.cycle.now c.as_slice.result.now c.as_slice.ensures c.requires

pub bounds-as_slice-first-2 : goal.bounds-as_slice-first-2
bounds-as_slice-first-2 c = process-is c.args.design.now c.args.cycle.now c.as_slice.result.now c.as_slice.ensures c.requires

pub returns : goal.returns
returns c = is-loop-at c.args.design.now c.args.cycle.now c.as_slice.result.now c.index-as_slice-first.result c.as_slice.ensures c.requires
