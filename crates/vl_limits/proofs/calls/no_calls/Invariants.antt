use Rattle.std.proofs.Common.{◌≡◌, length}
use Rattle.vl_limits.proofs.calls.no_calls.Given as goal

abbrev pub invariant-loop-function : goal.invariant-loop-function
invariant-loop-function l = record { callers : length l.calls.callers.items ≡ l._function; counts : length l.calls.counts.items ≡ l._function }
