use Rattle.std.proofs.Common.{◌≡◌, take}
use Rattle.std.specs.List.{flat_map}
use Rattle.vl_scope.specs.Faults.{earliest}
use Rattle.vl_scope.specs.DeclarationFaults as spec
use Rattle.vl_scope.proofs.faults.note_functions.Given as goal

abbrev pub invariant-loop-item : goal.invariant-loop-item
invariant-loop-item l = l.best ≡ earliest l.initial.best (flat_map spec.item_faults (take l.item-index l.items))
