use Rattle.std.proofs.Common.{arith}
use Rattle.vl_eval.proofs.Contexts.{copies-fit}
use Rattle.vl_eval.proofs.eval.repeated.Goals as goal

pub appended-all-requires-clause-high : goal.appended-all-requires-clause-high
appended-all-requires-clause-high c = c.loop-number.invariant.fits

pub appended-all-requires-clause-narrow : goal.appended-all-requires-clause-narrow
appended-all-requires-clause-narrow c =
    let b = c.loop-number.invariant.bits in
    let h = copies-fit c.loop-number.number c.args.count c.args.width c.loop-number-test.true in
    let n = c.requires.width.narrow in
    omega arith
