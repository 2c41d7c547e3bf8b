use Rattle.std.proofs.Common.{◌≡◌, map, take}
use Rattle.fab_join.specs.Laid.{shape_of_span}
use Rattle.fab_join.specs.Numbers.{behind, numbered_write}
use Rattle.fab_join.proofs.numbers.writes_at.Given as goal

abbrev pub invariant-loop-write : goal.invariant-loop-write
invariant-loop-write l = l.all.items ≡ map (numbered_write (behind (shape_of_span l.place))) (take l.write-index l.writes)
