use Rattle.std.proofs.Common.{sym, ◌∙◌}
use Rattle.fab_rounds.proofs.Ordered.{found_ends, found_lives, holding}
use Rattle.fab_rounds.proofs.ledgers.Ledger.found.Goals as goal

pub over-requires-clause-ends : goal.over-requires-clause-ends
over-requires-clause-ends g c = found_ends c.args.hit.transit c.ended.result (sym c.is_some.ensures ∙ c.if-is_some.true) c.ended.ensures.ends c.requires.out.2.withdrawn.lives

pub over-requires-clause-holding : goal.over-requires-clause-holding
over-requires-clause-holding g c = let o = c.requires.out in
    holding c.args.desks.now c.in-Some.order c.of-asked.result c.args.hit.fabric c.args.hit.transit o.0 c.args.self.now c.pop.new.self c.of-asked.ensures o.1 o.2 c.requires.next c.in-Some.ensures.items

pub moved-requires-clause-holding : goal.moved-requires-clause-holding
moved-requires-clause-holding g c = let o = c.requires.out in
    holding c.args.desks.now c.in-Some.order c.of-asked.result c.args.hit.fabric c.args.hit.transit o.0 c.args.self.now c.pop.new.self c.of-asked.ensures o.1 o.2 c.requires.next c.in-Some.ensures.items

pub moved-requires-clause-point : goal.moved-requires-clause-point
moved-requires-clause-point g c = let told = c.points_tell_of_tenants.ensures in
    found_lives c.args.hit.transit c.ended.result (sym c.is_some.ensures ∙ c.if-is_some.false) c.ended.ensures.reason c.requires.out.2.point told.ended told.boundary

pub stopped-requires-clause-holding : goal.stopped-requires-clause-holding
stopped-requires-clause-holding g c = let o = c.requires.out in
    holding c.args.desks.now c.in-Some.order c.of-asked.result c.args.hit.fabric c.args.hit.transit o.0 c.args.self.now c.pop.new.self c.of-asked.ensures o.1 o.2 c.requires.next c.in-Some.ensures.items

pub stopped-requires-clause-point : goal.stopped-requires-clause-point
stopped-requires-clause-point g c = let told = c.points_tell_of_tenants.ensures in
    found_lives c.args.hit.transit c.ended.result (sym c.is_some.ensures ∙ c.if-is_some.false) c.ended.ensures.reason c.requires.out.2.point told.ended told.boundary

pub saved-requires-clause-holding : goal.saved-requires-clause-holding
saved-requires-clause-holding g c = let o = c.requires.out in
    holding c.args.desks.now c.in-Some.order c.of-asked.result c.args.hit.fabric c.args.hit.transit o.0 c.args.self.now c.pop.new.self c.of-asked.ensures o.1 o.2 c.requires.next c.in-Some.ensures.items

pub saved-requires-clause-point : goal.saved-requires-clause-point
saved-requires-clause-point g c = let told = c.points_tell_of_tenants.ensures in
    found_lives c.args.hit.transit c.ended.result (sym c.is_some.ensures ∙ c.if-is_some.false) c.ended.ensures.reason c.requires.out.2.point told.ended told.boundary
