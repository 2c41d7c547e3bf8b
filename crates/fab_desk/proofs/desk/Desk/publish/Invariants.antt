use Rattle.fab_bay.specs.fab_lock.specs.Facts.{IsSeatOf}
use Rattle.std.proofs.Common.{◌≡◌, ◌++◌, List, take}
use Rattle.fab_bay.specs.fab_lock.specs.declared.entry.Entry.{Entry}
use Rattle.fab_bay.specs.fab_lock.specs.Histories.{Reaches}
use Rattle.fab_desk.specs.Desks.{itself}
use Rattle.fab_desk.proofs.desk.Desk.publish.Given as goal

abbrev pub invariant-loop-entry : goal.invariant-loop-entry
invariant-loop-entry l = record {
  seat : IsSeatOf l.self l.seat;
  view : l.seat.view ≡ record l.initial.seat.view { words = l.seat.view.words };
  reach : (found : List Entry) → Reaches itself l.initial.seat.view.count l.initial.seat.view.words found
      → Reaches itself l.initial.seat.view.count l.seat.view.words (found ++ take l.entry-index l.entries);
}
