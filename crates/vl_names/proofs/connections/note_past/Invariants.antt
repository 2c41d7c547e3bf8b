use Rattle.std.proofs.Common.{◌≡◌, [], take}
use Rattle.vl_scope.specs.Faults.{earliest, each_after}
use Rattle.vl_names.specs.Connections as spec
use Rattle.vl_names.proofs.connections.note_past.Given as goal

abbrev pub invariant-loop-number : goal.invariant-loop-number
invariant-loop-number l = l.best ≡ earliest l.initial.best (each_after (spec.past_fault l.count) [] (take l.number l.connections))
