use Rattle.std.proofs.Common.{◌≡◌, take, map}
use Rattle.vl_check.specs.Nets.{part}
use Rattle.vl_check.proofs.free.called.Given as goal

abbrev pub invariant-loop-call : goal.invariant-loop-call
invariant-loop-call l = l.parts.items ≡ map (λ c. part c.callee) (take l.call-index l.calls)
