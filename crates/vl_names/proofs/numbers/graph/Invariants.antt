use Rattle.std.proofs.Common.{◌≡◌, map, take}
use Rattle.vl_scope.specs.vl_tree.specs.Hierarchy as spec
use Rattle.vl_names.specs.Seen as seen
use Rattle.vl_names.proofs.numbers.graph.Given as goal

abbrev pub invariant-loop-tree : goal.invariant-loop-tree
invariant-loop-tree l = l.graph.items ≡ map (spec.steps_of (seen.look l.numbers)) (take l.tree-index l.tree-items)
