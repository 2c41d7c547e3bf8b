use Rattle.std.proofs.Common.{arith}
use Rattle.std.proofs.lemmas.Grind.{common_steps}
use Rattle.vl_uses.proofs.faults.note_modules.Goals as goal

pub loop-tree-preserved : goal.loop-tree-preserved
loop-tree-preserved c = λ none.
    let e = c.in_ok-best.ensures none in
    let before = c.loop-tree.invariant none in
    grind (arith, common_steps)
