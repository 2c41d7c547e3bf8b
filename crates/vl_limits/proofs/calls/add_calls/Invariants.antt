use Rattle.std.proofs.Common.{◌≡◌, length}
use Rattle.vl_limits.proofs.calls.add_calls.Given as goal

abbrev pub invariant-loop-site : goal.invariant-loop-site
invariant-loop-site l = record { callers : length l.calls.callers.items ≡ length l.fn.calls.callers.items; counts : length l.calls.counts.items ≡ length l.fn.calls.counts.items }
