use Rattle.std.proofs.Common.{◌≡◌, length, take}
use Rattle.host_run.specs.Rooms.{HaveRoom}
use Rattle.host_run.specs.Made.{AreLabelsOf}
use Rattle.host_run.proofs.labels.labels_of.Given as goal

abbrev pub invariant-loop-i : goal.invariant-loop-i
invariant-loop-i l = record {
  count : length l.labels.items ≡ l.i;
  labels : AreLabelsOf l.origins.items l.labels.items;
  room : HaveRoom (take l.i l.lines) l.labels.items;
}
