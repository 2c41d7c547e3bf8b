use Rattle.std.proofs.Common.{ap}
use Rattle.vl_runs.proofs.Bodies.{procs-are}
use Rattle.plain_run.proofs.Bodies.{any-fall}
use Rattle.plain_run.proofs.run.has_fall.Goals as goal

pub loop-process-init : goal.loop-process-init
loop-process-init c = ap any-fall (procs-are c.args.design.now c.as_slice-process-items.result.now c.as_slice-process-items.ensures)
