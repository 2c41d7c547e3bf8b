use Rattle.std.proofs.Common.{◌<◌, length, arith}
use Rattle.vl_names.proofs.Steps.{describe-turn}
use Rattle.vl_names.proofs.interface.interfaces.Goals as goal

pub loop-tree-preserved : goal.loop-tree-preserved
loop-tree-preserved c =
    let ms = c.as_slice-tree-items.result.now in
    let i = c.loop-tree.tree-index in
    let below : i < length ms = omega arith in
    describe-turn c.loop-tree.all.items c.push.new.self.items ms i c.in_ok-interface_of.field-0 c.tree-item.result below c.tree-item.is c.in_ok-push.ensures.items c.in_ok-interface_of.ensures c.loop-tree.invariant
