use Rattle.std.proofs.Common.{◌≡◌, ◌++◌, take}
use Rattle.vl_scope.specs.Declarations as spec
use Rattle.vl_scope.proofs.inputs.add_names.Given as goal

abbrev pub invariant-loop-name : goal.invariant-loop-name
invariant-loop-name l = spec.names_seen l.names.items ≡ spec.names_seen l.initial.names.items ++ take l.name-index l.more
