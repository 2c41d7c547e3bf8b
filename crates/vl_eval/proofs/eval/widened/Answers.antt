use Rattle.std.proofs.Common.{◌≤◌, ◌^◌, arith}
use Rattle.std.proofs.Math.Pow.{pow_mono}
use Rattle.vl_eval.proofs.eval.widened.Goals as goal

pub invariant_of-result : goal.invariant_of-result
invariant_of-result c =
    let h = c.requires.wide in
    let mono : 2 ^ c.args.bits.width ≤ 2 ^ c.args.width = pow_mono h in
    let fits = c.args.bits.fits in
    record { wide = omega arith; narrow = omega arith; fits = omega arith }
