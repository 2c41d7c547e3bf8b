use Rattle.std.proofs.Common.{◌≡◌, map, take}
use Rattle.cell_trim.specs.Moves.{number_of, moved_write}
use Rattle.cell_trim.proofs.moves.writes.Given as goal

abbrev pub invariant-loop-set : goal.invariant-loop-set
invariant-loop-set l = l.moved.items ≡ map (moved_write (number_of l.first l.numbers l.next)) (take l.set-index l.sets)
