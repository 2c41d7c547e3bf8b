use Rattle.std.proofs.Common.{◌≡◌, not, take}
use Rattle.std.specs.List.{flat_map}
use Rattle.vl_scope.specs.Faults.{earliest, fault_if}
use Rattle.vl_scope.specs.Declarations.{all_seen}
use Rattle.vl_scope.specs.Keys.{has}
use Rattle.vl_scope.proofs.faults.note_unlisted.Given as goal

abbrev pub invariant-loop-declaration : goal.invariant-loop-declaration
invariant-loop-declaration l = l.best ≡ earliest l.initial.best (flat_map (λ a. fault_if (not (has l.names a.name.name)) a.name.place 7) (all_seen (take l.declaration-index l.declarations)))
