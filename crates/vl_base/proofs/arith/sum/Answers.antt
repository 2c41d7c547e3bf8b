use Rattle.std.proofs.Common.{◌∙◌, ◌+◌}
use Rattle.vl_base.proofs.Wrapping.{mod-mod_below}
use Rattle.vl_base.proofs.arith.sum.Goals as goal

pub returns-clause-value : goal.returns-clause-value
returns-clause-value c =
    c.lowest.ensures ∙ mod-mod_below (c.args.a.value + c.args.b.value) c.args.a.width 128 c.args.a.narrow
