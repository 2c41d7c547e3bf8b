use Rattle.std.proofs.Common.{◌≡◌, None, sym, ap, ◌∙◌, arith}
use Rattle.fab_core.specs.fab_model.specs.Fabrics.{first_waiting, Fabric}
use Rattle.fab_bay.specs.Standing.{IsNoted}
use Rattle.fab_bay.specs.Ways.{transits}
use Rattle.fab_bay.proofs.Events.{on-ok}
use Rattle.fab_bay.proofs.Rounds.{both, onward}
use Rattle.fab_bay.proofs.Wanted.{fewer-rests, sets-out}
use Rattle.fab_bay.proofs.noted.NotedCore.step_to_cycle.Goals as goal

pub returns-then-is_err-clause-goes : goal.returns-then-is_err-clause-goes
returns-then-is_err-clause-goes c = c.serve_all.ensures.goes (transits c.args.leaving.now.items)

pub returns-then-not-is_at_rest-clause-goes : goal.returns-then-not-is_at_rest-clause-goes
returns-then-not-is_at_rest-clause-goes c =
    both c.args.number 0 0 0 c.args.self.now c.serve_all.new.self c.hold_where_due.new.self c.serve_all.ensures.goes c.hold_where_due.ensures.goes (omega arith) (transits c.args.leaving.now.items)

pub returns-then-not-is_at_rest-clause-settled : goal.returns-then-not-is_at_rest-clause-settled
returns-then-not-is_at_rest-clause-settled c = λ _. c.hold_where_due.ensures.settled

pub returns-then-not-is_at_rest-clause-steps : goal.returns-then-not-is_at_rest-clause-steps
returns-then-not-is_at_rest-clause-steps c = λ _.
    let r = c.serve_all.ensures.ready in
    let h = c.hold_where_due.ensures.held r.fabric r.noted in
    let quiet = on-ok ((f : Fabric) → IsNoted c.serve_all.new.self f → first_waiting f.residents ≡ None) c.serve_all.result (sym c.is_err.ensures.value ∙ c.if-is_err.false) c.serve_all.ensures.quiet in
    sets-out c.hold_where_due.new.self h.fabric h.noted (ap first_waiting h.residents ∙ quiet r.fabric r.noted) (c.hold_where_due.ensures.settled h.fabric h.noted)
    (c.is_at_rest.ensures h.fabric h.noted ∙ c.if-not-is_at_rest.true)

pub returns-in-Ok-clause-goes : goal.returns-in-Ok-clause-goes
returns-in-Ok-clause-goes c =
    let k = c.args.number in
    let x = c.args.self.now in
    let held = c.hold_where_due.new.self in
    let a = transits c.args.leaving.now.items in
    onward k 0 0 0 x held c.exchange.new.self a a (transits c.exchange.new.leaving.items) (both k 0 0 0 x c.serve_all.new.self held c.serve_all.ensures.goes c.hold_where_due.ensures.goes (omega arith) a) c.exchange.ensures.goes (omega arith)

pub returns-in-Ok-clause-rests : goal.returns-in-Ok-clause-rests
returns-in-Ok-clause-rests c = λ _.
    let r = c.serve_all.ensures.ready in
    fewer-rests c.args.self.now c.serve_all.new.self c.hold_where_due.new.self c.exchange.new.self r.fabric (c.hold_where_due.ensures.held r.fabric r.noted) c.serve_all.ensures.rests c.in-Ok.ensures.rests c.in-Ok.ensures.wanted

pub returns-in-Err-clause-goes : goal.returns-in-Err-clause-goes
returns-in-Err-clause-goes c =
    let k = c.args.number in
    let x = c.args.self.now in
    let held = c.hold_where_due.new.self in
    let a = transits c.args.leaving.now.items in
    onward k 0 0 0 x held c.exchange.new.self a a (transits c.exchange.new.leaving.items) (both k 0 0 0 x c.serve_all.new.self held c.serve_all.ensures.goes c.hold_where_due.ensures.goes (omega arith) a) c.exchange.ensures.goes (omega arith)
