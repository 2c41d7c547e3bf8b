use Rattle.std.proofs.Common.{◌≡◌, ℕ, List, take}
use Rattle.vl_scope.specs.Declarations as spec
use Rattle.vl_scope.specs.Keys.{value_at}
use Rattle.vl_scope.proofs.scope.kinds_of.Given as goal

abbrev pub invariant-loop-declaration : goal.invariant-loop-declaration
invariant-loop-declaration l = (t : List ℕ) → value_at l.kinds t ≡ spec.kind_in (spec.all_seen (take l.declaration-index l.declarations)) t
