use Rattle.std.proofs.Common.{◌≡◌, ◌++◌, take}
use Rattle.std.specs.List.{flat_map}
use Rattle.vl_scope.specs.Declarations as spec
use Rattle.vl_scope.proofs.declaration.add_header_parameters.Given as goal

abbrev pub invariant-loop-group : goal.invariant-loop-group
invariant-loop-group l = spec.all_seen l.declarations.items ≡ spec.all_seen l.initial.declarations.items ++ flat_map (λ g. spec.parameter_declarations g.assignments) (take l.group-index l.groups)
