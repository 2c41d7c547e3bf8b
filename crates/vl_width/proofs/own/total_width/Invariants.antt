use Rattle.std.proofs.Common.{◌≡◌, ◌+◌, map, drop}
use Rattle.vl_design.specs.Sized.{sized_of}
use Rattle.vl_width.specs.Read.{widths_together}
use Rattle.vl_width.proofs.own.total_width.Given as goal

abbrev pub invariant-loop-part : goal.invariant-loop-part
invariant-loop-part l = l.total + widths_together (map sized_of (drop l.part-index l.parts)) ≡ widths_together (map sized_of l.parts)
