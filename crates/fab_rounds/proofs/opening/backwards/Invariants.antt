use Rattle.std.proofs.Common.{◌≡◌, ◌++◌, length, reverse}
use Rattle.fab_rounds.proofs.opening.backwards.Given as goal

abbrev pub invariant-loop-order : goal.invariant-loop-order
invariant-loop-order l = l.reversed.items ++ reverse l.orders.items ≡ reverse l.fn.orders.items

abbrev pub decreases-loop-order : goal.decreases-loop-order
decreases-loop-order l = length l.orders.items
