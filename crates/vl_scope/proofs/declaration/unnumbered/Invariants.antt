use Rattle.std.proofs.Common.{◌≡◌, ◌++◌, take}
use Rattle.std.specs.List.{flat_map}
use Rattle.vl_scope.specs.Declarations as spec
use Rattle.vl_scope.proofs.declaration.unnumbered.Given as goal

abbrev pub invariant-loop-item : goal.invariant-loop-item
invariant-loop-item l = spec.all_seen l.declarations.items ≡ spec.all_seen l.initial.declarations.items ++ flat_map spec.item_declarations (take l.item-index l.item-items)
