use Rattle.std.proofs.Common.{◌∙◌}
use Rattle.ten_form.specs.vl_design.specs.Trees.{row_of}
use Rattle.cell_waves.proofs.Written.{width-told}
use Rattle.cell_waves.proofs.widths.has_width.Goals as goal

pub returns : goal.returns
returns c = c.is_some.ensures ∙ width-told c.width_of.result (row_of c.args.signal.now).width c.width_of.ensures.there c.width_of.ensures.within
