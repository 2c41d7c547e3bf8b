use Rattle.std.proofs.Common.{◌≡◌, not, take}
use Rattle.std.specs.List.{flat_map}
use Rattle.vl_scope.specs.Faults.{earliest, fault_if}
use Rattle.vl_scope.specs.Marks.{marks_at}
use Rattle.vl_scope.proofs.faults.note_undirected.Given as goal

abbrev pub invariant-loop-name : goal.invariant-loop-name
invariant-loop-name l = l.best ≡ earliest l.initial.best (flat_map (λ n. fault_if (not (marks_at l.known n.name).directed) n.place 7) (take l.name-index l.names))
