use Rattle.std.proofs.Common.{rules, ◌≡◌, [], ◌∷◌, ◌++◌, Some}
use Rattle.fab_core.specs.fab_model.specs.Tokens.{token_of}
use Rattle.fab_orders.specs.declared.outcomes.Answer.{Answer}
use Rattle.fab_orders.specs.declared.outcomes.Reached.TheVariants as reached
use Rattle.fab_rounds.proofs.Answered.{moves_so, own_held}
use Rattle.fab_rounds.proofs.Held.{after_firsts, after_outs, after_puts, after_reach, first_here, fits_here, own_here, place_first, place_of_order, place_there, tenant_here}
use Rattle.fab_rounds.proofs.Taken.{on_ok}
use Rattle.fab_rounds.proofs.ledgers.Ledger.moved.Goals as goal

pub bounds-desks-place : goal.bounds-desks-place
bounds-desks-place g c =
    let h = c.requires.holding in let t = c.args.hit.transit in let own = own_held c.args.desks.now c.args.order.value c.args.hit.fabric t c.args.self.now h c.of.result c.of.ensures in
    let place = place_of_order c.args.desks.now c.args.order.value c.args.hit.fabric t c.args.self.now h own c.args.fabric c.requires.wanted in
    place_there c.args.desks.now c.args.order.value c.args.hit.fabric t c.args.self.now h own c.args.fabric place

pub index_mut-requires : goal.index_mut-requires
index_mut-requires g c =
    let h = c.requires.holding in let t = c.args.hit.transit in let own = own_held c.args.desks.now c.args.order.value c.args.hit.fabric t c.args.self.now h c.of.result c.of.ensures in
    let place = place_of_order c.args.desks.now c.args.order.value c.args.hit.fabric t c.args.self.now h own c.args.fabric c.requires.wanted in
    place_first c.args.desks.now c.args.order.value c.args.hit.fabric t c.args.self.now h own c.args.fabric place

pub put_again-requires-clause-first : goal.put_again-requires-clause-first
put_again-requires-clause-first g c =
    let h = c.requires.holding in let t = c.args.hit.transit in let own = own_held c.args.desks.now c.args.order.value c.args.hit.fabric t c.args.self.now h c.of.result c.of.ensures in
    let place = place_of_order c.args.desks.now c.args.order.value c.args.hit.fabric t c.args.self.now h own c.args.fabric c.requires.wanted in
    first_here c.args.desks.now c.args.order.value c.args.hit.fabric t c.args.self.now h own c.args.fabric place c.index-desks-place.result c.index-desks-place.is c.index_mut.result.now c.index_mut.ensures.value

pub put_again-requires-clause-tenant : goal.put_again-requires-clause-tenant
put_again-requires-clause-tenant g c =
    let h = c.requires.holding in let t = c.args.hit.transit in let own = own_held c.args.desks.now c.args.order.value c.args.hit.fabric t c.args.self.now h c.of.result c.of.ensures in
    let place = place_of_order c.args.desks.now c.args.order.value c.args.hit.fabric t c.args.self.now h own c.args.fabric c.requires.wanted in
    tenant_here c.args.desks.now c.args.order.value c.args.hit.fabric t c.args.self.now h own c.args.fabric place c.index-desks-place.result c.index-desks-place.is

pub put_again-requires-clause-own : goal.put_again-requires-clause-own
put_again-requires-clause-own g c =
    let h = c.requires.holding in let t = c.args.hit.transit in let own = own_held c.args.desks.now c.args.order.value c.args.hit.fabric t c.args.self.now h c.of.result c.of.ensures in
    let place = place_of_order c.args.desks.now c.args.order.value c.args.hit.fabric t c.args.self.now h own c.args.fabric c.requires.wanted in
    own_here c.args.desks.now c.args.order.value c.args.hit.fabric t c.args.self.now h own c.args.fabric place c.index-desks-place.result c.index-desks-place.is

pub put_again-requires-clause-place : goal.put_again-requires-clause-place
put_again-requires-clause-place g c =
    let h = c.requires.holding in let t = c.args.hit.transit in let own = own_held c.args.desks.now c.args.order.value c.args.hit.fabric t c.args.self.now h c.of.result c.of.ensures in
    let place = place_of_order c.args.desks.now c.args.order.value c.args.hit.fabric t c.args.self.now h own c.args.fabric c.requires.wanted in
    fits_here c.args.desks.now c.args.order.value c.args.hit.fabric t c.args.self.now h own c.args.fabric place c.index-desks-place.result c.index-desks-place.is

pub returns : goal.returns
returns g c =
    let a : Answer = record { order = c.args.order; reached = reached.At c.ticks-ticks.result; finding = Some (record { fabric = c.args.hit.fabric; transit = c.of.result }) } in
    let pushed : c.push.new.self.items ≡ c.args.self.now.answers.items ++ a ∷ [] = search rules in
    let desks = c.args.desks.now in let o = c.args.order.value in let i = c.args.hit.fabric in let l = c.args.self.now in let j = c.args.fabric in let desk = c.index-desks-place.result in
    let h = c.requires.holding in let t = c.args.hit.transit in let own = own_held desks o i t l h c.of.result c.of.ensures in let place = place_of_order desks o i t l h own j c.requires.wanted in
    let is = c.index-desks-place.is in let old = c.index_mut.result.now in let was = c.index_mut.ensures.value in let seat = c.put_again.new.seat in let e = c.put_again.ensures in
    on_ok c.put_again.result (λ p. moves_so desks c.args.order c.of.result i t l h c.ticks-ticks.result c.ticks-ticks.ensures c.of.ensures _ c.push.new.self pushed
    (after_firsts desks o i t l h own j place desk is old was seat e.first) (after_outs desks o i t l h own j place desk is old was seat e.first e.outs) (after_reach desks o i t l h own j place desk is old was seat e.first e.reach) j c.requires.wanted
    (after_puts desks o i t l h own j place desk is old was seat e.first (token_of t) p))
    e.puts
