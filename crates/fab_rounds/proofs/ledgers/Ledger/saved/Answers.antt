use Rattle.std.proofs.Common.{rules, ◌≡◌, ◌<◌, ℕ, [], ◌∷◌, ◌++◌, Some, true, subst, sym, ap}
use Rattle.fab_core.specs.vl_design.specs.Costs.{saturated_cost}
use Rattle.fab_core.specs.vl_design.specs.Cost.{cost}
use Rattle.fab_core.specs.ten_core.specs.Tenants.{origin_of}
use Rattle.fab_core.specs.fab_model.specs.Fabrics.{within}
use Rattle.fab_core.specs.fab_model.specs.Origins.{StartsFrom}
use Rattle.fab_core.specs.fab_model.specs.Tokens.{token_of, Token}
use Rattle.fab_orders.specs.declared.outcomes.Answer.{Answer}
use Rattle.fab_orders.specs.declared.outcomes.Reached.TheVariants as reached
use Rattle.fab_rounds.proofs.Answered.{own_held, saves_so}
use Rattle.fab_rounds.proofs.Held.{after_firsts, after_outs, after_puts, after_reach, fits_here, own_here, tenant_here}
use Rattle.fab_rounds.proofs.Taken.{on_ok}
use Rattle.fab_rounds.proofs.ledgers.Ledger.saved.Goals as goal

pub put_again-requires-clause-tenant : goal.put_again-requires-clause-tenant
put_again-requires-clause-tenant g c =
    let h = c.requires.holding in let t = c.args.hit.transit in let own = own_held c.args.desks.now c.args.order.value c.args.hit.fabric t c.args.self.now h c.of.result c.of.ensures in
    subst (λ (n : ℕ). n < c.index-desks-place.result.label.tenants) (ap (λ (x : Token). x.tenant) (sym c.in_ok-transit.ensures.token))
    (tenant_here c.args.desks.now c.args.order.value c.args.hit.fabric t c.args.self.now h own c.args.hit.fabric h.takes.place c.index-desks-place.result c.index-desks-place.is)

pub put_again-requires-clause-own : goal.put_again-requires-clause-own
put_again-requires-clause-own g c =
    let h = c.requires.holding in let t = c.args.hit.transit in let own = own_held c.args.desks.now c.args.order.value c.args.hit.fabric t c.args.self.now h c.of.result c.of.ensures in
    subst (λ (x : Token). StartsFrom c.index-desks-place.result.label.origins x.tenant x.deed.origin) (sym c.in_ok-transit.ensures.token)
    (own_here c.args.desks.now c.args.order.value c.args.hit.fabric t c.args.self.now h own c.args.hit.fabric h.takes.place c.index-desks-place.result c.index-desks-place.is)

pub put_again-requires-clause-place : goal.put_again-requires-clause-place
put_again-requires-clause-place g c =
    let h = c.requires.holding in let t = c.args.hit.transit in let own = own_held c.args.desks.now c.args.order.value c.args.hit.fabric t c.args.self.now h c.of.result c.of.ensures in
    subst (λ (x : Token). within (saturated_cost (cost (origin_of x.deed.origin).flat)) c.index-desks-place.result.label.capacity ≡ true) (sym c.in_ok-transit.ensures.token)
    (fits_here c.args.desks.now c.args.order.value c.args.hit.fabric t c.args.self.now h own c.args.hit.fabric h.takes.place c.index-desks-place.result c.index-desks-place.is)

pub returns : goal.returns
returns g c =
    let a : Answer = record { order = c.args.order; reached = reached.At c.ticks-ticks.result; finding = Some (record { fabric = c.args.hit.fabric; transit = c.of.result }) } in
    let pushed : c.push.new.self.items ≡ c.args.self.now.answers.items ++ a ∷ [] = search rules in
    let desks = c.args.desks.now in let o = c.args.order.value in let i = c.args.hit.fabric in let l = c.args.self.now in let desk = c.index-desks-place.result in
    let h = c.requires.holding in let t = c.args.hit.transit in let own = own_held desks o i t l h c.of.result c.of.ensures in let place = h.takes.place in let t' = c.in_ok-transit.transit in
    let is = c.index-desks-place.is in let old = c.index_mut.result.now in let was = c.index_mut.ensures.value in let seat = c.put_again.new.seat in let e = c.put_again.ensures in
    on_ok c.put_again.result (λ p. saves_so desks c.args.order c.of.result i t l h c.ticks-ticks.result c.ticks-ticks.ensures c.of.ensures _ c.push.new.self pushed
    (after_firsts desks o i t l h own i place desk is old was seat e.first) (after_outs desks o i t l h own i place desk is old was seat e.first e.outs) (after_reach desks o i t l h own i place desk is old was seat e.first e.reach) c.args.name t' c.requires.wanted c.in_ok-transit.ensures.token
    (after_puts desks o i t l h own i place desk is old was seat e.first (token_of t') p))
    e.puts
