use Rattle.std.proofs.Common.{rules, ◌≡◌, [], ◌∷◌, ◌++◌, Some}
use Rattle.fab_orders.specs.declared.outcomes.Answer.{Answer}
use Rattle.fab_orders.specs.declared.outcomes.Reached.TheVariants as reached
use Rattle.fab_rounds.proofs.Answered.{stop_answers}
use Rattle.fab_rounds.proofs.Taken.{on_ok}
use Rattle.fab_rounds.proofs.ledgers.Ledger.stopped.Goals as goal

pub returns : goal.returns
returns c =
    let a : Answer = record { order = c.args.order; reached = reached.At c.ticks-ticks.result; finding = Some (record { fabric = c.args.hit.fabric; transit = c.of.result }) } in
    let pushed : c.push.new.self.items ≡ c.args.self.now.answers.items ++ a ∷ [] = search rules in
    let h = c.requires.holding in let p = c.requires.point in let told = c.points_tell_of_tenants.ensures in
    on_ok c.insert_done.result (λ put. stop_answers c.args.desks.now c.args.order c.of.result c.args.hit.fabric c.args.hit.transit c.args.self.now h c.ticks-ticks.result c.ticks-ticks.ensures c.of.ensures c.push.new.self c.insert_done.new.done
    p.0 p.1 told.ended pushed c.requires.wanted c.stopped.result c.stopped.ensures put p.2 told.boundary)
    c.insert_done.ensures
