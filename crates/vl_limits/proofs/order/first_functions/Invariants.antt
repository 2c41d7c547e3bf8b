use Rattle.std.proofs.Common.{◌<◌, length, All}
use Rattle.vl_limits.proofs.order.first_functions.Given as goal

abbrev pub invariant-loop-function : goal.invariant-loop-function
invariant-loop-function l = All (λ x. x < length l.counts) l.order.items
