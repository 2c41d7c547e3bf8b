use Rattle.std.proofs.Common.{◌≡◌, ◌≤◌, ◌++◌, drop}
use Rattle.vl_scope.specs.Declarations as spec
use Rattle.vl_scope.proofs.declaration.numbered.Given as goal

abbrev pub invariant-loop-declaration : goal.invariant-loop-declaration
invariant-loop-declaration l = record {
  few : l.number ≤ l.declaration-index;
  rest : spec.all_seen l.numbered.items ++ spec.numbered l.number (spec.all_seen (drop l.declaration-index l.declarations)) ≡ spec.numbered 0 (spec.all_seen l.declarations);
}
