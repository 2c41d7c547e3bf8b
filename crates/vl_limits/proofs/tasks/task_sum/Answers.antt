use Rattle.std.proofs.Common.{◌+◌, min, ap, ◌∙◌}
use Rattle.vl_limits.specs.Tallies.{counted_of}
use Rattle.vl_limits.proofs.Tasking.{task-is}
use Rattle.vl_limits.proofs.tasks.task_sum.Goals as goal

pub returns : goal.returns
returns c = c.kind_sum.ensures
    ∙ ap (λ n. min c.args.tally.now.cap (c.args.sum + n)) (task-is (counted_of c.args.tally.now) c.args.call.now.name c.as_slice.result.now c.args.call.now.args.items c.as_slice-2.result.now c.kind_of-kind.result c.kind_of-kind.ensures c.as_slice.ensures c.as_slice-2.ensures.value)
