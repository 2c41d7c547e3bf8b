use Rattle.std.proofs.Common.{◌≡◌, ◌+◌, map, take}
use Rattle.fab_join.proofs.numbers.operands_at.Given as goal

abbrev pub invariant-loop-slot : goal.invariant-loop-slot
invariant-loop-slot l = l.all.items ≡ map (λ s. l.base + s) (take l.slot-index l.slots)
