use Rattle.std.proofs.Common.{◌∙◌, sym, ap}
use Rattle.vl_design.specs.Alone.{stops}
use Rattle.ten_plan.specs.Plans.{due_of}
use Rattle.ten_plan.proofs.Ordered.{found-at, none-at, stop-none, stop-first, stop-other, no-stop-of, apart}
use Rattle.ten_plan.proofs.plan.Plan.stops.Goals as goal

pub returns-in-None : goal.returns-in-None
returns-in-None c =
    sym (stop-none _ c.args.tick c.args.done c.requires.done (none-at c.args.self.now.errands c.as_slice.result.now c.args.done c.as_slice.ensures c.in-None.ensures.lookup.0))

pub returns-in-Stop : goal.returns-in-Stop
returns-in-Stop c =
    let here = found-at c.args.self.now.errands c.as_slice.result.now c.args.done c.in-Some.errand.now c.as_slice.ensures c.in-Some.ensures.lookup.0 c.in-Some.ensures.lookup.1 in
    let first = stop-first _ c.args.tick c.args.done _ _ here c.requires.ordered c.requires.done c.requires.saved c.if-errand-tick.true in
    sym (first ∙ ap (λ d. stops (due_of d)) c.in-Stop.is)

pub returns-in_default : goal.returns-in_default
returns-in_default c =
    let here = found-at c.args.self.now.errands c.as_slice.result.now c.args.done c.in-Some.errand.now c.as_slice.ensures c.in-Some.ensures.lookup.0 c.in-Some.ensures.lookup.1 in
    let first = stop-first _ c.args.tick c.args.done _ _ here c.requires.ordered c.requires.done c.requires.saved c.if-errand-tick.true in
    sym (first ∙ no-stop-of c.in-Some.errand.now.due c.in_default.not-Stop)

pub returns-else-errand-tick : goal.returns-else-errand-tick
returns-else-errand-tick c =
    let here = found-at c.args.self.now.errands c.as_slice.result.now c.args.done c.in-Some.errand.now c.as_slice.ensures c.in-Some.ensures.lookup.0 c.in-Some.ensures.lookup.1 in
    let other = stop-other _ c.args.tick c.args.done _ _ here c.requires.ordered c.requires.done c.if-errand-tick.false in
    apart c.in-Some.errand.now.tick c.args.tick c.if-errand-tick.false ∙ sym other
