use Rattle.std.proofs.Common.{◌≡◌, flat_map, take}
use Rattle.vl_scope.specs.vl_tree.specs.Hierarchy as spec
use Rattle.vl_names.specs.Seen as seen
use Rattle.vl_names.proofs.interface.declared_names.Given as goal

abbrev pub invariant-loop-declaration : goal.invariant-loop-declaration
invariant-loop-declaration l = seen.nows l.names.items ≡ flat_map spec.declared_names (take l.declaration-index l.declarations)
