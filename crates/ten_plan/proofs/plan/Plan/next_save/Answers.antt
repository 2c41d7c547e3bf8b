use Rattle.std.proofs.Common.{ap}
use Rattle.ten_plan.specs.Plans.{due_of}
use Rattle.ten_plan.proofs.Ordered.{found-at, other-saves, save-first, save-done, last-saves, no-save-of}
use Rattle.ten_plan.proofs.plan.Plan.next_save.Goals as goal

pub returns-then-errand-tick-clause-none : goal.returns-then-errand-tick-clause-none
returns-then-errand-tick-clause-none c =
    let here = found-at c.args.self.now.errands c.as_slice.result.now c.args.done c.in_ok-errand.errand.now c.as_slice.ensures c.in_ok-errand.ensures.lookup.0 c.in_ok-errand.ensures.lookup.1 in
    other-saves _ c.args.tick c.args.done _ _ here c.requires.ordered c.requires.done c.if-errand-tick.true

pub returns-in-Save-clause-some : goal.returns-in-Save-clause-some
returns-in-Save-clause-some c =
    let here = found-at c.args.self.now.errands c.as_slice.result.now c.args.done c.in_ok-errand.errand.now c.as_slice.ensures c.in_ok-errand.ensures.lookup.0 c.in_ok-errand.ensures.lookup.1 in
    save-first _ c.args.tick c.args.done _ _ here c.requires.ordered c.requires.done c.in-Save.name c.if-errand-tick.false (ap due_of c.in-Save.is)

pub returns-in-Save-clause-done : goal.returns-in-Save-clause-done
returns-in-Save-clause-done c =
    let here = found-at c.args.self.now.errands c.as_slice.result.now c.args.done c.in_ok-errand.errand.now c.as_slice.ensures c.in_ok-errand.ensures.lookup.0 c.in_ok-errand.ensures.lookup.1 in
    save-done _ c.args.tick c.args.done _ _ here c.requires.ordered c.requires.done c.in-Save.name c.if-errand-tick.false (ap due_of c.in-Save.is)

pub returns-in_default-clause-none : goal.returns-in_default-clause-none
returns-in_default-clause-none c =
    let here = found-at c.args.self.now.errands c.as_slice.result.now c.args.done c.in_ok-errand.errand.now c.as_slice.ensures c.in_ok-errand.ensures.lookup.0 c.in_ok-errand.ensures.lookup.1 in
    last-saves _ c.args.tick c.args.done _ _ here c.requires.ordered c.requires.done c.if-errand-tick.false (no-save-of c.in_ok-errand.errand.now.due c.in_default.not-Save)
