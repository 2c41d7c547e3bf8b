use Rattle.std.proofs.Common.{◌≡◌, take}
use Rattle.vl_scope.specs.DeclarationFaults.{names_have}
use Rattle.vl_names.specs.Seen as seen
use Rattle.vl_names.proofs.interface.known_of.Given as goal

abbrev pub invariant-loop-name : goal.invariant-loop-name
invariant-loop-name l = seen.has l.known ≡ names_have (seen.nows (take l.name-index l.names))
