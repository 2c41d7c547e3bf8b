use Rattle.std.proofs.Common.{◌≡◌, ◌+◌, ◌*◌, min}
use Rattle.vl_limits.proofs.displays.missing_sum.Given as goal

abbrev pub invariant-loop-item : goal.invariant-loop-item
invariant-loop-item l = l.all ≡ min l.tally.cap (l.fn.from.sum + l._item * l.tally.node)
