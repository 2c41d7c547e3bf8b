use Rattle.std.proofs.Common.{◌≡◌, ◌+◌, map, take}
use Rattle.fab_join.proofs.numbers.numbers_at.Given as goal

abbrev pub invariant-loop-number : goal.invariant-loop-number
invariant-loop-number l = l.all.items ≡ map (λ s. l.base + s) (take l.number-index l.numbers)
