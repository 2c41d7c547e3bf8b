use Rattle.std.proofs.Common.{◌+◌, min, ap, sym, ◌∙◌}
use Rattle.vl_limits.specs.Tallies.{counted_of}
use Rattle.vl_limits.proofs.Tasking.{not-sys}
use Rattle.vl_limits.proofs.tasks.operated_sum.Goals as goal

pub returns-in-Sys : goal.returns-in-Sys
returns-in-Sys c = c.task_sum.ensures
    ∙ sym (ap (λ n. min c.args.tally.now.cap (c.args.sum + n)) (not-sys (counted_of c.args.tally.now) c.args.a.now.place c.args.op c.args.a.now c.in-Sys.call c.in-LogNot.is c.in-Sys.is))
