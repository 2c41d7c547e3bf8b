use Rattle.std.proofs.Common.{◌≡◌, take}
use Rattle.std.specs.List.{flat_map}
use Rattle.vl_scope.specs.Faults.{earliest, fault_if}
use Rattle.vl_scope.specs.Declarations.{names_seen}
use Rattle.vl_scope.proofs.faults.note_beside.Given as goal

abbrev pub invariant-loop-name : goal.invariant-loop-name
invariant-loop-name l = l.best ≡ earliest l.initial.best (flat_map (λ n. fault_if l.holds n.place 7) (names_seen (take l.name-index l.names)))
