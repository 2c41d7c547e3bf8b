use Rattle.std.proofs.Common.{arith}
use Rattle.cell_emit.proofs.Repeating.{ones-step}
use Rattle.cell_emit.proofs.copies.ones_apart.Goals as goal

pub overflow_add-ones : goal.overflow_add-ones
overflow_add-ones c =
    let fits = (ones-step c.loop-copy.copy c.args.count c.args.width c.loop-copy.ones c.loop-copy.invariant c.loop-copy-test.true c.requires.wide c.requires.fits).0 in
    omega (arith, fits)

pub loop-copy-preserved : goal.loop-copy-preserved
loop-copy-preserved c = (ones-step c.loop-copy.copy c.args.count c.args.width c.loop-copy.ones c.loop-copy.invariant c.loop-copy-test.true c.requires.wide c.requires.fits).1
