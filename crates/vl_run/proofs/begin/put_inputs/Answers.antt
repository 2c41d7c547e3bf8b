use Rattle.std.proofs.Common.{drop}
use Rattle.vl_run.proofs.Calling.{inputs-over}
use Rattle.vl_run.proofs.begin.put_inputs.Goals as goal

pub returns-in-empty : goal.returns-in-empty
returns-in-empty c = inputs-over (drop c.loop-input.input-index c.args.inputs.now) c.loop-input.left.now c.loop-input.values.items _ c.in-empty.len_below c.loop-input.invariant
