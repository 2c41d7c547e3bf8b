use Rattle.std.proofs.Common.{◌≡◌, ℕ, List, take}
use Rattle.vl_scope.specs.Faults.{earliest}
use Rattle.vl_scope.specs.Declarations.{all_seen}
use Rattle.vl_scope.specs.DeclarationFaults as spec
use Rattle.vl_scope.specs.Marks.{marks_in, marks_at}
use Rattle.vl_scope.proofs.faults.note_scope.Given as goal

abbrev pub invariant-loop-declaration : goal.invariant-loop-declaration
invariant-loop-declaration l = record {
  known : (t : List ℕ) → marks_at l.known t ≡ marks_in (all_seen (take l.declaration-index l.declarations)) t;
  best : l.best ≡ earliest l.fn.best (spec.scope_faults (all_seen (take l.declaration-index l.declarations)));
}
