use Rattle.std.proofs.Common.{◌∙◌, ◌<◌, arith}
use Rattle.vl_base.proofs.Shifts.{left-within}
use Rattle.cell_eval.proofs.shifts.moved_left.Goals as goal

pub returns-then-places-from : goal.returns-then-places-from
returns-then-places-from c =
    let within : c.args.places < c.args.width = omega arith in
    c.cut.ensures ∙ left-within c.args.value c.args.places c.args.width c.requires within
