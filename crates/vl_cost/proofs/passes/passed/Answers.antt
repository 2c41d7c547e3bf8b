use Rattle.std.proofs.Common.{◌≡◌, ◌+◌, suc, arith}
use Rattle.vl_limits.proofs.Climbing.{one-more}
use Rattle.vl_cost.specs.Walks.{next_cells}
use Rattle.vl_cost.proofs.passes.passed.Goals as goal

pub loop-index-preserved : goal.loop-index-preserved
loop-index-preserved c =
    let n = c.loop-index.index in
    let e : n + 1 ≡ suc n = omega arith in
    one-more next_cells c.args.funcs.now n (n + 1) c.replace.new.table.items e (c.replace.ensures n c.loop-index.invariant)
