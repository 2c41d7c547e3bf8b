use Rattle.vl_limits.proofs.Passing.{process-head}
use Rattle.vl_limits.proofs.limits.processes_limit.Goals as goal

pub process_sums-requires-clause-heads : goal.process_sums-requires-clause-heads
process_sums-requires-clause-heads c = process-head c.args.design.now c.requires.unrolled c.as_slice-processes.result.now c.loop-process.process-index c.process-item.result c.as_slice-processes.ensures c.loop-process-test.true c.process-item.is
