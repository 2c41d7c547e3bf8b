use Rattle.std.proofs.Common.{◌∙◌}
use Rattle.cell_eval.proofs.Operands.{turned-cut}
use Rattle.cell_eval.proofs.value.inverse.Goals as goal

pub returns : goal.returns
returns c = c.cut.ensures ∙ turned-cut c.args.width c.args.value c.requires.narrow c.requires.fits
