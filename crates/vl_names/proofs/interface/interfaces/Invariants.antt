use Rattle.std.proofs.Common.{take}
use Rattle.vl_names.specs.Seen as seen
use Rattle.vl_names.proofs.interface.interfaces.Given as goal

abbrev pub invariant-loop-tree : goal.invariant-loop-tree
invariant-loop-tree l = seen.DescribeAll l.all.items (take l.tree-index l.tree-items)
