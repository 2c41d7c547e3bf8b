use Rattle.std.proofs.Common.{◌≡◌, [], take}
use Rattle.vl_scope.specs.DeclarationFaults.{names_have}
use Rattle.vl_scope.specs.Faults.{earliest, each_after}
use Rattle.vl_names.specs.Connections as spec
use Rattle.vl_names.specs.Seen as seen
use Rattle.vl_names.proofs.connections.note_names.Given as goal

abbrev pub invariant-loop-connection : goal.invariant-loop-connection
invariant-loop-connection l = record {
  given : seen.has l.given ≡ names_have (spec.given (take l.connection-index l.connections));
  best : l.best ≡ earliest l.initial.best (each_after (spec.naming_fault (seen.has l.names.known)) [] (take l.connection-index l.connections));
}
