use Rattle.cell_emit.proofs.Frames.{grows-then}
use Rattle.std.proofs.Common.{length, ap, rules}
use Rattle.vl_design.specs.Trees.{fun_of}
use Rattle.vl_design.specs.Width.{names_in}
use Rattle.vl_eval.specs.Rooms.{names_of}
use Rattle.cell_emit.specs.cell_form.specs.Views.{list_of}
use Rattle.cell_expr.proofs.Starting.{begins-with, body-many}
use Rattle.cell_expr.proofs.call.begin.Goals as goal

pub returns-clause-begins : goal.returns-clause-begins
returns-clause-begins c =
    let n = length c.args.func.now.locals in
    let none = c.in_ok-slots.ensures in
    begins-with (names_in (names_of c.args.room.now) (fun_of c.args.func.now))
    (record { first = c.in-Ok.first; slots = c.in_ok-slots.slots.items; time = c.in_ok-time.time; answer = c.in_ok-answer.answer; here = c.args.at.now.here; away = c.args.at.now.away })
    _ (list_of c.args.cells.now) (list_of c.nothing.new.cells) (list_of c.nothing-2.new.cells)
    none (body-many c.args.room.now c.args.func.now _ _ _ (search rules) (ap length c.as_slice.ensures) none) c.requires.fits.here c.requires.fits.away c.requires.fits.is_here c.requires.fits.is_away c.in_ok-time.ensures.gives c.in_ok-answer.ensures.gives

pub returns-in_err-time-clause-grows : goal.returns-in_err-time-clause-grows
returns-in_err-time-clause-grows c = c.nothing.ensures.grows

pub returns-in_err-answer-clause-grows : goal.returns-in_err-answer-clause-grows
returns-in_err-answer-clause-grows c =
    let l0 = list_of c.args.cells.now in
    let l1 = list_of c.nothing.new.cells in
    let l2 = list_of c.nothing-2.new.cells in
    grows-then l0 l1 l2 c.in_ok-time.ensures.grows c.nothing-2.ensures.grows
