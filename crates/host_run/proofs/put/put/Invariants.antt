use Rattle.std.proofs.Common.{◌≤◌, ◌-◌, length, take}
use Rattle.host_run.specs.Taking.{Takes}
use Rattle.host_run.proofs.put.put.Given as goal

abbrev pub invariant-pieces : goal.invariant-pieces
invariant-pieces g l = record {
  within : l.sent ≤ length l.text;
  faults : g.K.Sink.faults l.initial.sink ≤ g.K.Sink.faults l.sink;
  taken : Takes (g.K.Sink.taken l.initial.sink) (g.K.Sink.taken l.sink) (take l.sent l.text);
}

abbrev pub decreases-pieces : goal.decreases-pieces
decreases-pieces g l = length l.text - l.sent
