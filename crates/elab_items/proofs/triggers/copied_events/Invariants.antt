use Rattle.std.proofs.Common.{◌≡◌, take}
use Rattle.elab_items.proofs.triggers.copied_events.Given as goal

abbrev pub invariant-loop-a : goal.invariant-loop-a
invariant-loop-a l = l.all.items ≡ take l.a-index l.events
