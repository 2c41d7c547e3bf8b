use Rattle.std.proofs.Common.{◌<◌, length, arith}
use Rattle.vl_names.proofs.Steps.{numbers-turn, repeated-turn}
use Rattle.vl_names.proofs.numbers.numbers_of.Goals as goal

pub loop-index-preserved : goal.loop-index-preserved
loop-index-preserved c =
    let ms = c.as_slice-tree-items.result.now in
    let i = c.loop-index.index in
    let below : i < length ms = omega arith in
    record {
      numbers = numbers-turn ms i c.tree-item.result _ _ below c.tree-item.is c.loop-index.invariant.numbers c.in_ok-best.ensures.numbers;
      best = repeated-turn ms i c.tree-item.result _ _ _ _ below c.tree-item.is c.loop-index.invariant.numbers c.in_ok-best.ensures.best c.loop-index.invariant.best;
    }
