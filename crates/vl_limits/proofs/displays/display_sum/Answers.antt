use Rattle.std.proofs.Common.{map, arith}
use Rattle.std.proofs.lemmas.List.{at_drop_all}
use Rattle.vl_design.specs.Trees.{arg_of}
use Rattle.vl_limits.specs.Displays.{shown_count}
use Rattle.vl_limits.specs.Tallies.{counted_of}
use Rattle.vl_limits.proofs.Showing.{shown-none}
use Rattle.vl_limits.proofs.displays.display_sum.Goals as goal

pub returns : goal.returns
returns c =
    let t = counted_of c.args.tally.now in
    let i = at_drop_all (λ xs. shown_count t c.loop-a.all.taken (map arg_of xs)) c.args.given.now c.loop-a.a-index c.loop-a-test.false in
    let n = shown-none t c.loop-a.all.taken in
    let h = c.loop-a.invariant in
    let m = c.missing_sum.ensures in
    omega (arith, i, n, h, m)
