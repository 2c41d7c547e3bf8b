use Rattle.std.proofs.Common.{◌≡◌, ℕ, List, take}
use Rattle.vl_scope.specs.Faults.{earliest}
use Rattle.vl_scope.specs.DeclarationFaults as spec
use Rattle.vl_scope.specs.Keys.{has}
use Rattle.vl_scope.proofs.faults.note_listed.Given as goal

abbrev pub invariant-loop-name : goal.invariant-loop-name
invariant-loop-name l = record {
  names : (t : List ℕ) → has l.all t ≡ spec.names_have (take l.name-index l.names) t;
  best : l.best ≡ earliest l.fn.best (spec.repeated_faults (take l.name-index l.names));
}
