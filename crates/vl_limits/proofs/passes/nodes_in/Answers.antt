use Rattle.std.proofs.Common.{◌≡◌, ◌+◌, suc, arith}
use Rattle.vl_limits.specs.Bodies.{next_nodes}
use Rattle.vl_limits.proofs.Climbing.{one-more}
use Rattle.vl_limits.proofs.passes.nodes_in.Goals as goal

pub loop-index-preserved : goal.loop-index-preserved
loop-index-preserved c = λ same.
    let n = c.loop-index.index in
    let e : n + 1 ≡ suc n = omega arith in
    one-more (next_nodes c.args.signals.now c.args.statements.now) c.args.funcs.now n (n + 1) c.replace_nodes.new.table.items e (c.in_ok-replace_nodes.ensures same n (c.loop-index.invariant same))
