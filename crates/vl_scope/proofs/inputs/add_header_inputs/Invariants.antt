use Rattle.std.proofs.Common.{◌≡◌, ◌++◌, take}
use Rattle.std.specs.List.{flat_map}
use Rattle.vl_scope.specs.Declarations as spec
use Rattle.vl_scope.proofs.inputs.add_header_inputs.Given as goal

abbrev pub invariant-loop-port : goal.invariant-loop-port
invariant-loop-port l = spec.names_seen l.names.items ≡ spec.names_seen l.initial.names.items ++ flat_map (λ a. a.names) (take l.port-index l.port-items)
