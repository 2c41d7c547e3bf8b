use Rattle.std.proofs.Common.{◌<◌, get_or, length, arith}
use Rattle.std.proofs.lemmas.List.{get_or_default}
use Rattle.vl_names.specs.Walks.{rank}
use Rattle.vl_names.proofs.Walks.{each-turn}
use Rattle.vl_names.proofs.itself.are_below.Goals as goal

pub loop-node-preserved : goal.loop-node-preserved
loop-node-preserved c =
    let nodes = c.args.nodes.now in
    let i = c.loop-node.node-index in
    let node = get_or nodes i 0 in
    let below : i < length nodes = omega arith in
    each-turn (λ k. rank c.args.ranks.now k < c.args.limit) nodes i node below (get_or_default nodes i 0 node below) (omega (arith, c.rank.ensures)) c.loop-node.invariant
