use Rattle.std.proofs.Common.{◌≡◌, length}
use Rattle.vl_limits.proofs.calls.calls_of.Given as goal

abbrev pub invariant-loop-caller : goal.invariant-loop-caller
invariant-loop-caller l = record { callers : length l.calls.callers.items ≡ length l.funcs; counts : length l.calls.counts.items ≡ length l.funcs }
