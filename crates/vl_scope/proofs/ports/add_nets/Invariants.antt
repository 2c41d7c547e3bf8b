use Rattle.std.proofs.Common.{◌≡◌, ◌++◌, map, take}
use Rattle.vl_scope.specs.Declarations as spec
use Rattle.vl_scope.proofs.ports.add_nets.Given as goal

abbrev pub invariant-loop-name : goal.invariant-loop-name
invariant-loop-name l = spec.all_seen l.declarations.items ≡ spec.all_seen l.initial.declarations.items ++ map (spec.port l.direction l.wire l.vector) (take l.name-index l.names)
