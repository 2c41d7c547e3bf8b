use Rattle.std.proofs.Common.{◌≡◌, ◌+◌, suc, arith}
use Rattle.vl_limits.specs.Bodies.{next_statements}
use Rattle.vl_limits.proofs.Climbing.{one-more}
use Rattle.vl_limits.proofs.passes.statements_in.Goals as goal

pub loop-index-preserved : goal.loop-index-preserved
loop-index-preserved c =
    let n = c.loop-index.index in
    let e : n + 1 ≡ suc n = omega arith in
    one-more (next_statements c.args.signals.now) c.args.funcs.now n (n + 1) c.replace_statements.new.table.items e (c.in_ok-replace_statements.ensures n c.loop-index.invariant)
