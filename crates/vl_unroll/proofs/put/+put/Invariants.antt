use Rattle.std.proofs.Common.{◌≡◌, map, take}
use Rattle.vl_design.specs.Placed as p
use Rattle.vl_design.specs.Seen.{exp_of}
use Rattle.vl_loops.specs.Placed.{args_put}
use Rattle.vl_loops.specs.Rooms.{rows_of, values_of}
use Rattle.vl_unroll.specs.Listed.{put_of, args_with}
use Rattle.vl_unroll.proofs.put.+put.Given as goal

abbrev pub invariant-puts-loop-e : goal.invariant-puts-loop-e
invariant-puts-loop-e l = map exp_of l.all.items ≡ map (put_of (rows_of l.room) (values_of l.numbers)) (take l.e-index l.es)

abbrev pub invariant-put_args-loop-one : goal.invariant-put_args-loop-one
invariant-put_args-loop-one l = (others : p.Args) → args_with l.all.items (args_put (rows_of l.room) (values_of l.numbers) others) ≡ args_put (rows_of l.room) (values_of l.numbers) (args_with (take l.one-index l.given) others)
