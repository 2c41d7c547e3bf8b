use Rattle.std.proofs.Common.{◌≡◌, ◌<◌, length, All}
use Rattle.vl_limits.proofs.order.call_order.Given as goal

abbrev pub invariant-loop-index : goal.invariant-loop-index
invariant-loop-index l = record { long : length l.counts.items ≡ length l.funcs; within : All (λ x. x < length l.counts.items) l.order.items }
