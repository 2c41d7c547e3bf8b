use Rattle.std.proofs.Common.{◌≡◌, take}
use Rattle.vl_scope.specs.Faults.{earliest}
use Rattle.vl_uses.specs.Nodes as n
use Rattle.vl_uses.specs.Walks as w
use Rattle.vl_uses.proofs.declarations.note_assignments.Given as goal

abbrev pub invariant-loop-assignment : goal.invariant-loop-assignment
invariant-loop-assignment l = l.best ≡ earliest l.initial.best (w.faults (w.means l.names) (n.continuous_nodes l.setting (take l.assignment-index l.assignments)))
