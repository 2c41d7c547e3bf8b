use Rattle.std.proofs.Common.{◌≡◌, drop}
use Rattle.vl_scope.specs.DeclarationFaults.{names_have}
use Rattle.vl_names.specs.Seen as seen
use Rattle.vl_names.proofs.interface.is_among.Given as goal

abbrev pub invariant-loop-name : goal.invariant-loop-name
invariant-loop-name l = names_have (seen.nows (drop l.name-index l.names)) l.text ≡ names_have (seen.nows l.names) l.text
