use Rattle.std.proofs.Common.{◌≡◌, map, take}
use Rattle.cell_trim.specs.Moves.{number_of}
use Rattle.cell_trim.proofs.moves.slots.Given as goal

abbrev pub invariant-loop-slot : goal.invariant-loop-slot
invariant-loop-slot l = l.moved.items ≡ map (number_of l.first l.numbers l.next) (take l.slot-index l.wanted)
