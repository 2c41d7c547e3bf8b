use Rattle.std.proofs.Common.{◌≡◌, ◌≤◌, take, length}
use Rattle.vl_check.specs.Searches.{Follows, room}
use Rattle.vl_check.proofs.calls_marks.follow.Given as goal

abbrev pub invariant-loop-call : goal.invariant-loop-call
invariant-loop-call l = record {
  long : length l.seen.items ≡ length l.fn.seen.items;
  follows : Follows (take l.call-index l.calls) l.fn.seen.items l.fn.stack.items l.seen.items l.stack.items;
  room : room l.seen.items l.stack.items ≤ room l.fn.seen.items l.fn.stack.items;
}
