use Rattle.std.proofs.Common.{◌≡◌, [], take}
use Rattle.vl_scope.specs.Faults.{earliest, each_after}
use Rattle.vl_names.specs.HierarchyFaults.{top_fault}
use Rattle.vl_names.specs.Walks.{is_unmarked}
use Rattle.vl_names.proofs.tops.note_tops.Given as goal

abbrev pub invariant-loop-node : goal.invariant-loop-node
invariant-loop-node l = l.best ≡ earliest l.initial.best (each_after (top_fault (is_unmarked l.marks) l.first) [] (take l.node l.modules))
