use Rattle.std.proofs.Common.{◌∙◌, ◌+◌}
use Rattle.vl_base.proofs.Wrapping.{mod-mod_below}
use Rattle.cell_eval.proofs.value.sum.Goals as goal

pub returns : goal.returns
returns c = c.cut.ensures ∙ mod-mod_below (c.args.left + c.args.right) c.args.width 128 c.requires
