use Rattle.std.proofs.Common.{rules, ◌≡◌, [], ◌∷◌, ◌++◌, refl}
use Rattle.fab_orders.specs.declared.outcomes.Cause.{Cause}
use Rattle.fab_rounds.proofs.Puts.{moving_own, moving_place, moving_tenant, puts_one}
use Rattle.fab_rounds.proofs.Taken.{both_ok}
use Rattle.fab_rounds.proofs.ledgers.Ledger.put_one.Goals as goal

pub put_again-requires-clause-tenant : goal.put_again-requires-clause-tenant
put_again-requires-clause-tenant g c = moving_tenant c.args.desks.now c.args.self.now c.args.next c.index-desks-place.result c.requires.ledger c.requires.next c.index-desks-place.is

pub put_again-requires-clause-own : goal.put_again-requires-clause-own
put_again-requires-clause-own g c = moving_own c.args.desks.now c.args.self.now c.args.next c.index-desks-place.result c.requires.ledger c.requires.next c.index-desks-place.is

pub put_again-requires-clause-place : goal.put_again-requires-clause-place
put_again-requires-clause-place g c = moving_place c.args.desks.now c.args.self.now c.args.next c.index-desks-place.result c.requires.ledger c.requires.next c.index-desks-place.is

pub returns : goal.returns
returns g c = let cause : Cause = record { reason = c.args.next.reason; fabric = c.args.next.fabric; transit = c.of.result } in
    let pushed : c.push.new.self.items ≡ c.args.self.now.causes.items ++ cause ∷ [] = search rules in
    both_ok c.put_again.result (λ p t. puts_one c.args.desks.now c.args.self.now c.args.next c.index-desks-place.result c.requires.ledger c.requires.next c.index-desks-place.is
    _ c.push.new.self c.put_again.new.seat c.index_mut.result.now c.of.result c.of.ensures refl pushed c.index_mut.ensures.value c.put_again.ensures.first p c.put_again.ensures.outs c.put_again.ensures.reach t)
    c.put_again.ensures.puts c.put_again.ensures.there
