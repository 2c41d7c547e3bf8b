use Rattle.std.proofs.Common.{◌≡◌, map, take}
use Rattle.fab_join.specs.Laid.{shape_of_span}
use Rattle.fab_join.specs.Numbers.{behind, numbered_port}
use Rattle.fab_join.proofs.numbers.ports_at.Given as goal

abbrev pub invariant-loop-port : goal.invariant-loop-port
invariant-loop-port l = l.all.items ≡ map (numbered_port (behind (shape_of_span l.place))) (take l.port-index l.from.ports)
