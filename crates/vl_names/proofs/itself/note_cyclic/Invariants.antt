use Rattle.std.proofs.Common.{◌≡◌, take}
use Rattle.vl_scope.specs.Faults.{earliest}
use Rattle.vl_names.specs.HierarchyFaults.{itself_faults}
use Rattle.vl_names.proofs.itself.note_cyclic.Given as goal

abbrev pub invariant-loop-node : goal.invariant-loop-node
invariant-loop-node l = l.best ≡ earliest l.initial.best (itself_faults l.graph (take l.node l.modules))
