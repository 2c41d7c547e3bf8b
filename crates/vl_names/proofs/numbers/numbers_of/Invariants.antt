use Rattle.std.proofs.Common.{◌≡◌, [], take}
use Rattle.vl_scope.specs.Faults.{earliest, each_after}
use Rattle.vl_names.specs.HierarchyFaults.{repeated_fault}
use Rattle.vl_names.specs.Seen as seen
use Rattle.vl_names.proofs.numbers.numbers_of.Given as goal

abbrev pub invariant-loop-index : goal.invariant-loop-index
invariant-loop-index l = record {
  numbers : seen.look l.numbers ≡ seen.number_in (take l.index l.tree-items);
  best : l.best ≡ earliest l.initial.best (each_after repeated_fault [] (take l.index l.tree-items));
}
