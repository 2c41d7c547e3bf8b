use Rattle.std.proofs.Common.{◌≡◌, ◌++◌, take}
use Rattle.vl_scope.specs.Declarations as spec
use Rattle.vl_scope.proofs.items.add_parameters.Given as goal

abbrev pub invariant-loop-assignment : goal.invariant-loop-assignment
invariant-loop-assignment l = spec.all_seen l.declarations.items ≡ spec.all_seen l.initial.declarations.items ++ spec.parameter_declarations (take l.assignment-index l.assignments)
