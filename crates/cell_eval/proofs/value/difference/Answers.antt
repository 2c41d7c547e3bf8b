use Rattle.std.proofs.Common.{◌∙◌, ◌%◌, ◌^◌, ◌≤◌, ap, sym, arith}
use Rattle.std.specs.Prelude.{pos, ◌-ℤ◌}
use Rattle.vl_base.proofs.Wrapping.{wrapped-cut}
use Rattle.vl_base.proofs.Wholes.{wrapped-difference}
use Rattle.cell_eval.proofs.value.difference.Goals as goal

pub returns : goal.returns
returns c =
    let below : c.args.right ≤ 2 ^ 128 = omega (arith, c.ranges.right.fits) in
    c.cut.ensures
    ∙ ap (λ n. n % 2 ^ c.args.width) (sym (wrapped-difference 128 c.args.left c.args.right below))
    ∙ wrapped-cut (pos c.args.left -ℤ pos c.args.right) c.args.width 128 c.requires
