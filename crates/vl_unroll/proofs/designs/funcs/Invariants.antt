use Rattle.std.proofs.Common.{◌≡◌, map, take}
use Rattle.vl_design.specs.Seen.{func_of}
use Rattle.vl_unroll.specs.Bodies.{func_at}
use Rattle.vl_unroll.proofs.designs.funcs.Given as goal

abbrev pub invariant-loop-f : goal.invariant-loop-f
invariant-loop-f l = map func_of l.all.items ≡ map (func_at l.signals) (take l.f-index l.list)
