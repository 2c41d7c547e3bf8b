use Rattle.std.proofs.Common.{◌∙◌, sym, ap}
use Rattle.ten_plan.specs.Plans.{due_of, move_to}
use Rattle.ten_plan.proofs.Ordered.{found-at, none-at, move-none, move-first, move-other, move-never, no-move-of}
use Rattle.ten_plan.proofs.plan.Plan.moves.Goals as goal

pub returns-then-errand-tick : goal.returns-then-errand-tick
returns-then-errand-tick c =
    let here = found-at c.args.self.now.errands c.as_slice.result.now c.args.done c.in_ok-errand.errand.now c.as_slice.ensures c.in_ok-errand.ensures.lookup.0 c.in_ok-errand.ensures.lookup.1 in
    let first = move-first _ c.args.tick c.args.done _ _ here c.requires.ordered c.requires.done c.requires.saved c.if-errand-tick.true in
    sym (first ∙ ap (λ d. move_to (due_of d)) c.in-Move.is)

pub returns-else-errand-tick : goal.returns-else-errand-tick
returns-else-errand-tick c =
    let here = found-at c.args.self.now.errands c.as_slice.result.now c.args.done c.in_ok-errand.errand.now c.as_slice.ensures c.in_ok-errand.ensures.lookup.0 c.in_ok-errand.ensures.lookup.1 in
    sym (move-other _ c.args.tick c.args.done _ _ here c.requires.ordered c.requires.done c.if-errand-tick.false)

pub returns-in_default : goal.returns-in_default
returns-in_default c =
    let here = found-at c.args.self.now.errands c.as_slice.result.now c.args.done c.in_ok-errand.errand.now c.as_slice.ensures c.in_ok-errand.ensures.lookup.0 c.in_ok-errand.ensures.lookup.1 in
    move-never _ c.args.tick c.args.done _ _ here c.requires.ordered c.requires.done c.requires.saved (no-move-of c.in_ok-errand.errand.now.due c.in_default.not-Move)

pub returns-in_err-errand : goal.returns-in_err-errand
returns-in_err-errand c =
    c.from_residual.ensures
    ∙ sym (move-none _ c.args.tick c.args.done c.requires.done (none-at c.args.self.now.errands c.as_slice.result.now c.args.done c.as_slice.ensures c.in_err-errand.ensures.lookup.0))
