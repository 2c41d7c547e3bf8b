use Rattle.std.proofs.Common.{false, [], sym, ◌∙◌, arith}
use Rattle.std.specs.Prelude.{◌⊎◌}
use Rattle.fab_bay.specs.Rounds.{HasStepper, IsSettled, IsVacant}
use Rattle.fab_bay.specs.Ways.{transits}
use Rattle.fab_bay.proofs.Events.{on-ok}
use Rattle.fab_bay.proofs.Rounds.{onward, ready-on}
use Rattle.fab_bay.proofs.Wanted.{not-vacant}
use Rattle.fab_bay.proofs.noted.NotedCore.round.Goals as goal

pub cycle-requires-clause-steps : goal.cycle-requires-clause-steps
cycle-requires-clause-steps c =
    let x = c.before_cycle.new.self in
    not-vacant x c.is_vacant.result c.is_vacant.ensures c.if-is_vacant.false
    (on-ok (IsVacant x ⊎ HasStepper x) c.before_cycle.result (sym c.is_err.ensures.value ∙ c.if-is_err.false) c.before_cycle.ensures.steps)

pub cycle-requires-clause-order : goal.cycle-requires-clause-order
cycle-requires-clause-order c = on-ok (IsSettled c.before_cycle.new.self) c.before_cycle.result (sym c.is_err.ensures.value ∙ c.if-is_err.false) c.before_cycle.ensures.settled

pub returns-clause-ready : goal.returns-clause-ready
returns-clause-ready c =
    let r = c.before_cycle.ensures.ready in
    ready-on c.args.number 1 c.before_cycle.new.self c.cycle.new.self r (c.cycle.ensures.goes c.args.number []) (c.cycle.ensures.room r.room)

pub returns-clause-cycle : goal.returns-clause-cycle
returns-clause-cycle c = λ _.
    let a = transits c.args.leaving.now.items in
    let b = transits c.before_cycle.new.leaving.items in
    onward c.args.number 0 1 1 c.args.self.now c.before_cycle.new.self c.cycle.new.self a b b c.before_cycle.ensures.goes (c.cycle.ensures.goes c.args.number b) (omega arith)
