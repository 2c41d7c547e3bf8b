use Rattle.std.proofs.Common.{◌≡◌, ◌++◌, take}
use Rattle.std.specs.List.{flat_map}
use Rattle.vl_scope.specs.Declarations as spec
use Rattle.vl_scope.proofs.inputs.body_inputs.Given as goal

abbrev pub invariant-loop-declaration : goal.invariant-loop-declaration
invariant-loop-declaration l = spec.names_seen l.names.items ≡ spec.names_seen l.initial.names.items ++ flat_map spec.body_inputs_of (take l.declaration-index l.declaration-items)
