use Rattle.std.proofs.Common.{[], sym, ◌∙◌, arith}
use Rattle.std.proofs.lemmas.Result.{on_ok_weaker}
use Rattle.fab_bay.specs.Ways.{transits}
use Rattle.fab_bay.proofs.Finding.{leaves-first}
use Rattle.fab_bay.proofs.Rounds.{ready-on}
use Rattle.fab_bay.proofs.Wanted.{joined-rests, left-rests, rebuilt-rests, rest-holds, wanted-head}
use Rattle.fab_bay.proofs.noted.NotedCore.exchange.Goals as goal

pub leave_one-requires-clause-due : goal.leave_one-requires-clause-due
leave_one-requires-clause-due c = λ f n. leaves-first f c.in-Some.tenant n.core.once (sym c.in-Some.is ∙ c.next_leaving.ensures f n.core)

pub returns-in-Some-clause-rests : goal.returns-in-Some-clause-rests
returns-in-Some-clause-rests c =
    let x = c.args.self.now in
    let r = c.requires.ready in
    let holds = rest-holds x r.fabric r.noted (c.requires.rest r.fabric r.noted) in
    on_ok_weaker c.leave_one.result (λ lt. let a = left-rests x c.leave_one.new.self holds lt in omega (arith, a)) c.leave_one.ensures.moves

pub returns-in-Some-clause-wanted : goal.returns-in-Some-clause-wanted
returns-in-Some-clause-wanted c =
    let x = c.args.self.now in
    let r = c.requires.ready in
    let holds = rest-holds x r.fabric r.noted (c.requires.rest r.fabric r.noted) in
    on_ok_weaker c.leave_one.result (λ lt f n w. left-rests x c.leave_one.new.self holds lt) c.leave_one.ensures.moves

pub returns-in-None-clause-ready : goal.returns-in-None-clause-ready
returns-in-None-clause-ready c = ready-on c.args.number 0 c.args.self.now c.rebuild.new.self c.requires.ready (c.rebuild.ensures.goes []) c.rebuild.ensures.room

pub returns-in-None-clause-goes : goal.returns-in-None-clause-goes
returns-in-None-clause-goes c = c.rebuild.ensures.goes (transits c.args.leaving.now.items)

pub returns-in-None-clause-rests : goal.returns-in-None-clause-rests
returns-in-None-clause-rests c =
    let x = c.args.self.now in
    let r = c.requires.ready in
    let holds = rest-holds x r.fabric r.noted (c.requires.rest r.fabric r.noted) in
    on_ok_weaker c.rebuild.result (λ g. rebuilt-rests x c.rebuild.new.self r.fabric r.noted (g r.fabric r.noted) holds) c.rebuild.ensures.rebuilt

pub returns-in-None-clause-wanted : goal.returns-in-None-clause-wanted
returns-in-None-clause-wanted c =
    let x = c.args.self.now in
    let r = c.requires.ready in
    let holds = rest-holds x r.fabric r.noted (c.requires.rest r.fabric r.noted) in
    on_ok_weaker c.rebuild.result (λ g f n w. joined-rests x c.rebuild.new.self f n (g f n) holds (wanted-head f w (sym (c.next_leaving.ensures f n.core) ∙ c.in-None.is))) c.rebuild.ensures.rebuilt
