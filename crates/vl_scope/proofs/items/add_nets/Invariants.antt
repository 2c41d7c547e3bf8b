use Rattle.std.proofs.Common.{◌≡◌, ◌++◌, map, take}
use Rattle.vl_scope.specs.Declarations as spec
use Rattle.vl_scope.specs.declared.kind.Class.TheVariants as class
use Rattle.vl_scope.proofs.items.add_nets.Given as goal

abbrev pub invariant-loop-assignment : goal.invariant-loop-assignment
invariant-loop-assignment l = spec.all_seen l.declarations.items ≡ spec.all_seen l.initial.declarations.items ++ map (λ a. spec.declared class.Net l.vector a.name) (take l.assignment-index l.assignments)
