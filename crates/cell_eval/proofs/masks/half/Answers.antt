use Rattle.std.proofs.Common.{◌-◌, ◌^◌, ◌≤◌, arith}
use Rattle.std.proofs.Math.Pow.{pow_pos, pow_mono}
use Rattle.cell_eval.proofs.masks.half.Goals as goal

pub overflow_add-result : goal.overflow_add-result
overflow_add-result c =
    let low : c.args.width - 1 ≤ 127 = omega arith in
    let p = pow_pos (c.args.width - 1) in
    let mono : 2 ^ (c.args.width - 1) ≤ 2 ^ 127 = pow_mono {j = 127} low in
    omega (arith, c.mask.ensures, p, mono)

pub returns : goal.returns
returns c = let p = pow_pos (c.args.width - 1) in omega (arith, c.mask.ensures, p)
