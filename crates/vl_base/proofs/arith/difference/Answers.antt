use Rattle.std.proofs.Common.{◌∙◌, ◌%◌, ◌^◌, ◌≤◌, ap, sym, arith}
use Rattle.std.specs.Prelude.{pos, ◌-ℤ◌}
use Rattle.vl_base.proofs.Wrapping.{wrapped-cut}
use Rattle.vl_base.proofs.Wholes.{wrapped-difference}
use Rattle.vl_base.proofs.arith.difference.Goals as goal

pub returns-clause-value : goal.returns-clause-value
returns-clause-value c =
    let below : c.args.b.value ≤ 2 ^ 128 = omega arith in
    c.lowest.ensures
    ∙ ap (λ n. n % 2 ^ c.args.a.width) (sym (wrapped-difference 128 c.args.a.value c.args.b.value below))
    ∙ wrapped-cut (pos c.args.a.value -ℤ pos c.args.b.value) c.args.a.width 128 c.args.a.narrow
