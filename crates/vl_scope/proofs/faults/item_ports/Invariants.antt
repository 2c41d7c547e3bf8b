use Rattle.std.proofs.Common.{◌≡◌, take}
use Rattle.std.specs.List.{flat_map}
use Rattle.vl_scope.specs.Declarations.{all_seen}
use Rattle.vl_scope.specs.DeclarationFaults as spec
use Rattle.vl_scope.proofs.faults.item_ports.Given as goal

abbrev pub invariant-loop-item : goal.invariant-loop-item
invariant-loop-item l = all_seen l.declarations.items ≡ flat_map spec.item_ports (take l.item-index l.items)
