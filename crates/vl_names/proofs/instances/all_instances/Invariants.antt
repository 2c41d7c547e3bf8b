use Rattle.std.proofs.Common.{◌≡◌, flat_map, take}
use Rattle.vl_scope.specs.vl_tree.specs.Hierarchy as spec
use Rattle.vl_names.specs.Seen as seen
use Rattle.vl_names.proofs.instances.all_instances.Given as goal

abbrev pub invariant-loop-tree : goal.invariant-loop-tree
invariant-loop-tree l = seen.nows l.all.items ≡ flat_map spec.instances (take l.tree-index l.tree-items)
