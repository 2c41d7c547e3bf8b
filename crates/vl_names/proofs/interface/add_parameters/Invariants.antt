use Rattle.std.proofs.Common.{◌≡◌, ◌++◌, take}
use Rattle.vl_scope.specs.vl_tree.specs.Hierarchy as spec
use Rattle.vl_names.specs.Seen as seen
use Rattle.vl_names.proofs.interface.add_parameters.Given as goal

abbrev pub invariant-loop-parameter : goal.invariant-loop-parameter
invariant-loop-parameter l = seen.nows l.names.items ≡ seen.nows l.initial.names.items ++ spec.assigned (take l.parameter-index l.more)
