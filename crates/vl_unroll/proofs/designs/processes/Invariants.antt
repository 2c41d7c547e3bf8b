use Rattle.std.proofs.Common.{◌≡◌, map, take}
use Rattle.vl_design.specs.Seen.{process_of}
use Rattle.vl_unroll.specs.Bodies.{process_at}
use Rattle.vl_unroll.proofs.designs.processes.Given as goal

abbrev pub invariant-loop-a : goal.invariant-loop-a
invariant-loop-a l = map process_of l.all.items ≡ map (process_at l.signals) (take l.a-index l.list)
