use Rattle.std.proofs.Common.{◌≡◌, drop}
use Rattle.vl_names.specs.Connections as spec
use Rattle.vl_names.proofs.connections.note_other.Given as goal

abbrev pub invariant-loop-connection : goal.invariant-loop-connection
invariant-loop-connection l = spec.other_faults l.named (drop l.connection-index l.connections) ≡ spec.other_faults l.named l.connections
