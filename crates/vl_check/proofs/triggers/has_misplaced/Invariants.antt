use Rattle.std.proofs.Common.{◌≡◌, drop}
use Rattle.std.specs.List.{list_any}
use Rattle.vl_check.specs.Triggers.{is_misplaced}
use Rattle.vl_check.proofs.triggers.has_misplaced.Given as goal

abbrev pub invariant-loop-event : goal.invariant-loop-event
invariant-loop-event l = list_any (is_misplaced l.signals) (drop l.event-index l.events) ≡ list_any (is_misplaced l.signals) l.events
