use Rattle.std.proofs.Common.{◌+◌, ◌≤◌, ◌<◌, ◌∙◌, arith}
use Rattle.vl_base.proofs.Parts.{placed-past, placed-within, kept-below}
use Rattle.cell_eval.proofs.placing.placed_from.Goals as goal

pub returns-then-low-from-clause-value : goal.returns-then-low-from-clause-value
returns-then-low-from-clause-value c =
    let past : c.args.base.width ≤ c.args.low = omega arith in
    placed-past c.args.base.width c.args.base.value c.args.low c.args.part.width c.args.part.value c.args.base.fits past

pub overflow_add-kept : goal.overflow_add-kept
overflow_add-kept c =
    let below = kept-below c.args.base.value c.args.low (c.args.low + c.args.part.width) (omega arith) in
    omega (arith, below, c.cleared_below.ensures, c.cut.ensures)

pub returns-clause-value : goal.returns-clause-value
returns-clause-value c =
    let within : c.args.low < c.args.base.width = omega arith in
    c.cut-2.ensures ∙ rw (c.cleared_below.ensures, c.cut.ensures)
    (placed-within c.args.base.width c.args.base.value c.args.low c.args.part.width c.args.part.value c.args.base.narrow within)
