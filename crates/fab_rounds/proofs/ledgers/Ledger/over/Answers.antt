use Rattle.std.proofs.Common.{rules, ◌≡◌, [], ◌∷◌, ◌++◌, Some}
use Rattle.fab_orders.specs.declared.outcomes.Answer.{Answer}
use Rattle.fab_orders.specs.declared.outcomes.Reached.TheVariants as reached
use Rattle.fab_rounds.proofs.Answered.{over_answers}
use Rattle.fab_rounds.proofs.Taken.{on_ok}
use Rattle.fab_rounds.proofs.ledgers.Ledger.over.Goals as goal

pub returns : goal.returns
returns c =
    let a : Answer = record { order = c.args.order; reached = reached.Ended c.ticks-ticks.result; finding = Some (record { fabric = c.args.hit.fabric; transit = c.of.result }) } in
    let pushed : c.push.new.self.items ≡ c.args.self.now.answers.items ++ a ∷ [] = search rules in
    let h = c.requires.holding in let e = c.requires.ends in
    on_ok c.insert_done.result (λ put. over_answers c.args.desks.now c.args.order c.of.result c.args.hit.fabric c.args.hit.transit c.args.self.now h c.ticks-ticks.result c.ticks-ticks.ensures c.of.ensures c.push.new.self c.insert_done.new.done
    h.takes.point.0 h.takes.point.1 c.points_tell_of_tenants.ensures.ended pushed c.requires.watch put e.0 e.1 e.2)
    c.insert_done.ensures
