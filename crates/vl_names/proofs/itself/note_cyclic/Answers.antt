use Rattle.std.proofs.Common.{◌<◌, length, arith}
use Rattle.vl_scope.specs.Faults.{fault_if}
use Rattle.vl_names.specs.Walks.{is_cyclic}
use Rattle.vl_names.proofs.Steps.{numbered-turn}
use Rattle.vl_names.proofs.itself.note_cyclic.Goals as goal

pub loop-node-preserved : goal.loop-node-preserved
loop-node-preserved c =
    let ms = c.args.modules.now in
    let below : c.loop-node.node < length ms = omega arith in
    numbered-turn (λ k m. fault_if (is_cyclic c.args.graph.now k) m.name.place 5) ms c.loop-node.node c.index-modules-node.result c.args.best c.loop-node.best c.in_ok-best.best below c.index-modules-node.is c.in_ok-best.ensures c.loop-node.invariant
