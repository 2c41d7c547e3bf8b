use Rattle.std.proofs.Common.{◌≡◌, drop}
use Rattle.vl_design.specs.Functions.{with_inputs}
use Rattle.vl_run.proofs.begin.put_inputs.Given as goal

abbrev pub invariant-loop-input : goal.invariant-loop-input
invariant-loop-input l = with_inputs (drop l.input-index l.inputs) l.left l.values.items ≡ with_inputs l.inputs l.args l.initial.values.items
