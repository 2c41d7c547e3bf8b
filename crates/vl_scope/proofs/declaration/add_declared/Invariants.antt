use Rattle.std.proofs.Common.{◌≡◌, ◌++◌, map, take}
use Rattle.vl_scope.specs.Declarations as spec
use Rattle.vl_scope.proofs.declaration.add_declared.Given as goal

abbrev pub invariant-loop-name : goal.invariant-loop-name
invariant-loop-name l = spec.all_seen l.declarations.items ≡ spec.all_seen l.initial.declarations.items ++ map (spec.declared l.class l.vector) (take l.name-index l.names)
