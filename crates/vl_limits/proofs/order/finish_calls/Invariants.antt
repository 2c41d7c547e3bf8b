use Rattle.std.proofs.Common.{◌≡◌, ◌<◌, length, All}
use Rattle.vl_limits.proofs.order.finish_calls.Given as goal

abbrev pub invariant-loop-caller : goal.invariant-loop-caller
invariant-loop-caller l = record { long : length l.counts.items ≡ length l.fn.counts.items; within : All (λ x. x < length l.counts.items) l.order.items }
