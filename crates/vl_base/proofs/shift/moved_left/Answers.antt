use Rattle.std.proofs.Common.{◌∙◌, ◌<◌, ◌≤◌, arith}
use Rattle.vl_base.proofs.Shifts.{left-within, left-past}
use Rattle.vl_base.proofs.shift.moved_left.Goals as goal

pub returns-then-places-from : goal.returns-then-places-from
returns-then-places-from c =
    let within : c.args.places < c.args.width = omega arith in
    c.lowest.ensures ∙ left-within c.args.value c.args.places c.args.width c.requires within

pub returns-else-places-from : goal.returns-else-places-from
returns-else-places-from c =
    let past : c.args.width ≤ c.args.places = omega arith in
    left-past c.args.value c.args.places c.args.width past
