use Rattle.std.proofs.Common.{◌≡◌, ◌++◌, take}
use Rattle.std.specs.List.{flat_map}
use Rattle.vl_scope.specs.Declarations as spec
use Rattle.vl_scope.proofs.locals.add_locals.Given as goal

abbrev pub invariant-loop-declaration : goal.invariant-loop-declaration
invariant-loop-declaration l = spec.all_seen l.declarations.items ≡ spec.all_seen l.initial.declarations.items ++ flat_map spec.body_declarations (take l.declaration-index l.declaration-items)
