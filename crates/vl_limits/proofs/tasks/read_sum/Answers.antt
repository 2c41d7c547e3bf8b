use Rattle.std.proofs.Common.{◌∙◌, sym}
use Rattle.vl_limits.specs.Tallies.{counted_of}
use Rattle.vl_limits.proofs.Tasking.{read-list}
use Rattle.vl_limits.proofs.tasks.read_sum.Goals as goal

pub returns-then-is_value : goal.returns-then-is_value
returns-then-is_value c = read-list (counted_of c.args.tally.now) c.args.tally.now.cap c.args.sum c.plus-named.result c.argument_sum.result c.args.given.now c.variable-item.result c.file-item.result c.in-len2-up.len_at_least c.variable-item.is c.file-item.is
    (sym c.is_signal.ensures ∙ c.if-is_signal.true) (sym c.is_value.ensures ∙ c.if-is_value.true) c.plus-named.ensures c.argument_sum.ensures.file
