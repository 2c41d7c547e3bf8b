use Rattle.std.proofs.Common.{◌≡◌, map, take}
use Rattle.vl_design.specs.Seen.{target_of}
use Rattle.vl_loops.specs.Rooms.{rows_of, values_of}
use Rattle.vl_unroll.specs.Listed.{target_put_of}
use Rattle.vl_unroll.proofs.targets.+target.Given as goal

abbrev pub invariant-put_targets-loop-part : goal.invariant-put_targets-loop-part
invariant-put_targets-loop-part l = map target_of l.all.items ≡ map (target_put_of (rows_of l.room) (values_of l.numbers)) (take l.part-index l.parts)
