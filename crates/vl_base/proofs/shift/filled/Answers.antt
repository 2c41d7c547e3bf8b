use Rattle.std.proofs.Common.{◌≤◌, ◌^◌, arith}
use Rattle.std.proofs.Math.Pow.{pow_mono, pow_pos}
use Rattle.vl_base.proofs.shift.filled.Goals as goal

pub overflow_sub-result : goal.overflow_sub-result
overflow_sub-result c =
    let mono : 2 ^ c.args.kept ≤ 2 ^ c.args.a.width = pow_mono c.requires.kept in
    omega arith

pub returns-clause-value : goal.returns-clause-value
returns-clause-value c =
    let mono : 2 ^ c.args.kept ≤ 2 ^ c.args.a.width = pow_mono c.requires.kept in
    omega (arith, pow_pos c.args.kept)
