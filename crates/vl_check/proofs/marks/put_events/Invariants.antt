use Rattle.std.proofs.Common.{◌≡◌, ◌<◌, ◌==◌, ℕ, length, get_or, drop, false}
use Rattle.std.specs.Prelude.{if◌then◌else◌}
use Rattle.std.specs.List.{list_any}
use Rattle.vl_check.proofs.marks.put_events.Given as goal

abbrev pub invariant-loop-event : goal.invariant-loop-event
invariant-loop-event l = record {
  long : length l.marks.items ≡ length l.initial.marks.items;
  left : (k : ℕ) → k < length l.initial.marks.items → (if list_any (λ e. e.signal == k) (drop l.event-index l.events) then l.mark else get_or l.marks.items k false)
      ≡ (if list_any (λ e. e.signal == k) l.events then l.mark else get_or l.initial.marks.items k false);
}
