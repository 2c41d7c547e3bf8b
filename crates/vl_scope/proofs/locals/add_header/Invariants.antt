use Rattle.std.proofs.Common.{◌≡◌, ◌++◌, take}
use Rattle.std.specs.List.{flat_map}
use Rattle.vl_scope.specs.Declarations as spec
use Rattle.vl_scope.proofs.locals.add_header.Given as goal

abbrev pub invariant-loop-port : goal.invariant-loop-port
invariant-loop-port l = spec.all_seen l.declarations.items ≡ spec.all_seen l.initial.declarations.items ++ flat_map spec.input_declarations (take l.port-index l.port-items)
