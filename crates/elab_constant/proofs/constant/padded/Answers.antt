use Rattle.std.proofs.Common.{◌≤◌, ◌^◌, arith}
use Rattle.std.proofs.Math.Pow.{pow_mono}
use Rattle.elab_constant.proofs.constant.padded.Goals as goal

pub invariant_of-result : goal.invariant_of-result
invariant_of-result c = record {
  wide = omega (arith, c.args.a.wide, c.requires.fits);
  narrow = c.requires.narrow;
  fits = let p : 2 ^ c.args.a.width ≤ 2 ^ c.args.width = pow_mono c.requires.fits in omega (arith, c.args.a.fits, p);
}
