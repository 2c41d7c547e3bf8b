use Rattle.std.proofs.Common.{◌+◌, ◌≤◌, ◌<◌, ◌∙◌, arith}
use Rattle.vl_base.proofs.Parts.{placed-past, placed-within, kept-below}
use Rattle.vl_base.proofs.select.placed_from.Goals as goal

pub returns-then-low-from-clause-value : goal.returns-then-low-from-clause-value
returns-then-low-from-clause-value c =
    let past : c.args.a.width ≤ c.args.low = omega arith in
    placed-past c.args.a.width c.args.a.value c.args.low c.args.part.width c.args.part.value c.args.a.fits past

pub overflow_add-kept : goal.overflow_add-kept
overflow_add-kept c =
    let below = kept-below c.args.a.value c.args.low (c.args.low + c.args.part.width) (omega arith) in
    omega (arith, below, c.cleared_below.ensures, c.lowest.ensures)

pub returns-clause-value : goal.returns-clause-value
returns-clause-value c =
    let within : c.args.low < c.args.a.width = omega arith in
    c.lowest-2.ensures ∙ rw (c.cleared_below.ensures, c.lowest.ensures)
    (placed-within c.args.a.width c.args.a.value c.args.low c.args.part.width c.args.part.value c.args.a.narrow within)
