use Rattle.ten_plan.proofs.Ordered.{found-at, past-one, past-none}
use Rattle.ten_plan.proofs.plan.Plan.past.Goals as goal

pub returns-then-errand-tick : goal.returns-then-errand-tick
returns-then-errand-tick c =
    let here = found-at c.args.self.now.errands c.as_slice.result.now c.args.done c.in-Some.errand.now c.as_slice.ensures c.in-Some.ensures.lookup.0 c.in-Some.ensures.lookup.1 in
    past-one _ c.args.tick c.args.done _ _ here c.requires.ordered c.requires.done c.requires.saved c.if-errand-tick.true

pub returns-else-errand-tick : goal.returns-else-errand-tick
returns-else-errand-tick c =
    let here = found-at c.args.self.now.errands c.as_slice.result.now c.args.done c.in-Some.errand.now c.as_slice.ensures c.in-Some.ensures.lookup.0 c.in-Some.ensures.lookup.1 in
    past-none _ c.args.tick c.args.done _ _ here c.requires.ordered c.requires.done c.if-errand-tick.false
