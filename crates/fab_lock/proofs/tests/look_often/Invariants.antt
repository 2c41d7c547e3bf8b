use Rattle.std.proofs.Common.{◌≡◌, false}
use Rattle.fab_lock.specs.Facts.{IsSeatOf}
use Rattle.fab_lock.proofs.tests.look_often.Given as goal

abbrev pub invariant-loop : goal.invariant-loop
invariant-loop g l = record {
  seat : IsSeatOf l.lock l.seat;
  free : l.seat.view.holds ≡ false;
}
