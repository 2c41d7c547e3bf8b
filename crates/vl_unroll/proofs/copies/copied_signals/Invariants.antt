use Rattle.std.proofs.Common.{◌≡◌, take}
use Rattle.vl_unroll.proofs.copies.copied_signals.Given as goal

abbrev pub invariant-loop-signal : goal.invariant-loop-signal
invariant-loop-signal l = l.all.items ≡ take l.signal-index l.signals
