use Rattle.std.proofs.Common.{◌≡◌, flat_map, take}
use Rattle.vl_scope.specs.vl_tree.specs.Hierarchy as spec
use Rattle.vl_names.specs.Seen as seen
use Rattle.vl_names.proofs.interface.item_parameters.Given as goal

abbrev pub invariant-loop-item : goal.invariant-loop-item
invariant-loop-item l = seen.nows l.names.items ≡ flat_map spec.item_parameters (take l.item-index l.items)
