use Rattle.std.proofs.Common.{◌≡◌, ◌++◌, map, take, false}
use Rattle.vl_scope.specs.Declarations as spec
use Rattle.vl_scope.specs.declared.kind.Class.TheVariants as class
use Rattle.vl_scope.proofs.items.add_instances.Given as goal

abbrev pub invariant-loop-instance : goal.invariant-loop-instance
invariant-loop-instance l = spec.all_seen l.declarations.items ≡ spec.all_seen l.initial.declarations.items ++ map (λ n. spec.declared class.Instance false n.name) (take l.instance-index l.instances)
