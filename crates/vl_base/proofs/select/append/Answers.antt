use Rattle.std.proofs.Common.{◌+◌, ◌^◌, ◌≤◌, refl, arith}
use Rattle.std.proofs.Math.Pow.{pow_mono}
use Rattle.std.proofs.lemmas.Nat.{shl_whole}
use Rattle.vl_base.proofs.Parts.{joined-below}
use Rattle.vl_base.proofs.select.append.Goals as goal

pub overflow_add-result : goal.overflow_add-result
overflow_add-result c =
    let narrow : c.args.high.width + c.args.low.width ≤ 128 = omega arith in
    let whole = shl_whole c.args.high.value c.args.high.width c.args.low.width 128 c.args.high.fits narrow in
    let below = joined-below c.args.high.value c.args.low.value c.args.high.width c.args.low.width c.args.high.fits c.args.low.fits in
    let mono : 2 ^ (c.args.high.width + c.args.low.width) ≤ 2 ^ 128 = pow_mono {j = 128} narrow in
    omega (arith, whole, below, mono)

pub invariant_of-result-clause-fits : goal.invariant_of-result-clause-fits
invariant_of-result-clause-fits c =
    let narrow : c.args.high.width + c.args.low.width ≤ 128 = omega arith in
    rw (shl_whole c.args.high.value c.args.high.width c.args.low.width 128 c.args.high.fits narrow)
    (joined-below c.args.high.value c.args.low.value c.args.high.width c.args.low.width c.args.high.fits c.args.low.fits)

pub returns-clause-value : goal.returns-clause-value
returns-clause-value c =
    let narrow : c.args.high.width + c.args.low.width ≤ 128 = omega arith in
    rw (shl_whole c.args.high.value c.args.high.width c.args.low.width 128 c.args.high.fits narrow) refl
