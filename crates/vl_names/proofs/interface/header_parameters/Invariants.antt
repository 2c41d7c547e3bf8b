use Rattle.std.proofs.Common.{◌≡◌, flat_map, take}
use Rattle.vl_scope.specs.vl_tree.specs.Hierarchy as spec
use Rattle.vl_names.specs.Seen as seen
use Rattle.vl_names.proofs.interface.header_parameters.Given as goal

abbrev pub invariant-loop-group : goal.invariant-loop-group
invariant-loop-group l = seen.nows l.names.items ≡ flat_map (λ g. spec.assigned g.assignments) (take l.group-index l.groups)
