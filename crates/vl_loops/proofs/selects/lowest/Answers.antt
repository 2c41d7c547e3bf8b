use Rattle.std.proofs.Common.{◌≡◌, arith}
use Rattle.std.proofs.lemmas.Int.{ints}
use Rattle.vl_loops.proofs.Nears.{near-lowest}
use Rattle.vl_loops.proofs.selects.lowest.Goals as goal

pub returns-then-from : goal.returns-then-from
returns-then-from c =
    let l = c.reading-whole.ensures.above in
    let u = c.reading-whole.ensures.below in
    near-lowest c.args.from _ c.if-from.true _ c.within.result _ c.reading-whole.result _ (omega (arith, ints)) c.within.ensures (omega (arith, ints)) (omega (arith, ints)) (omega (arith, ints)) c.reading-whole.ensures.near

pub returns-else-from : goal.returns-else-from
returns-else-from c =
    let l = c.reading-whole.ensures.above in
    let u = c.reading-whole.ensures.below in
    near-lowest c.args.from _ c.if-from.false _ c.within-else-from.result _ c.reading-whole.result _ (omega (arith, ints)) c.within-else-from.ensures (omega (arith, ints)) (omega (arith, ints)) (omega (arith, ints)) c.reading-whole.ensures.near
