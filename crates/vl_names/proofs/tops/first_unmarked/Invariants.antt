use Rattle.std.proofs.Common.{◌≡◌, ◌-◌, length}
use Rattle.vl_scope.specs.vl_tree.specs.Hierarchy.{first_from}
use Rattle.vl_names.specs.Walks.{is_unmarked}
use Rattle.vl_names.proofs.tops.first_unmarked.Given as goal

abbrev pub invariant-loop-node : goal.invariant-loop-node
invariant-loop-node l = first_from (is_unmarked l.marks) l.node (length l.marks - l.node) ≡ first_from (is_unmarked l.marks) 0 (length l.marks)
