use Rattle.std.proofs.Common.{◌≡◌, ◌+◌, min, map, drop}
use Rattle.vl_design.specs.Trees.{arg_of}
use Rattle.vl_limits.specs.Displays.{shown_count}
use Rattle.vl_limits.specs.Tallies.{counted_of}
use Rattle.vl_limits.proofs.displays.display_sum.Given as goal

abbrev pub invariant-loop-a : goal.invariant-loop-a
invariant-loop-a l =
    min l.tally.cap (l.all.sum + shown_count (counted_of l.tally) l.all.taken (map arg_of (drop l.a-index l.given))) ≡ min l.tally.cap (l.sum + shown_count (counted_of l.tally) 0 (map arg_of l.given))
