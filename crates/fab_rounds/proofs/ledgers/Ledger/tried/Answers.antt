use Rattle.std.proofs.Common.{Bool, false, subst}
use Rattle.fab_rounds.specs.Tries.{IsNext}
use Rattle.fab_rounds.proofs.Ordered.{hit_at, hit_next, hit_out, miss_at, next_still, operates_found, operates_missed, operates_told, sought_ledger}
use Rattle.fab_rounds.proofs.ledgers.Ledger.tried.Goals as goal

pub watched-requires-clause-next : goal.watched-requires-clause-next
watched-requires-clause-next g c = subst (λ (w : Bool). IsNext c.in-Some.next.tenant w c.args.self.now.orders.items) c.if-next.true c.in-Some.ensures

pub returns-then-next : goal.returns-then-next
returns-then-next g c = operates_told c.args.desks.now c.args.self.now c.watched.new.self c.requires.ledger c.requires.none c.in_ok-watched.ensures

pub missed-requires-clause-kept : goal.missed-requires-clause-kept
missed-requires-clause-kept g c = let s = miss_at c.args.desks.now c.in-Some.next.tenant c.args.self.now c.sought.new.self c.in_ok-hit.field-0 c.in_default-2.is c.in_ok-hit.ensures in (sought_ledger c.args.desks.now c.args.self.now c.sought.new.self c.requires.ledger s).kept

pub missed-requires-clause-next : goal.missed-requires-clause-next
missed-requires-clause-next g c = let s = miss_at c.args.desks.now c.in-Some.next.tenant c.args.self.now c.sought.new.self c.in_ok-hit.field-0 c.in_default-2.is c.in_ok-hit.ensures in next_still c.args.desks.now c.args.self.now c.sought.new.self c.in-Some.next.tenant false s
    (subst (λ (w : Bool). IsNext c.in-Some.next.tenant w c.args.self.now.orders.items) c.if-next.false c.in-Some.ensures)

pub returns-in_default-2 : goal.returns-in_default-2
returns-in_default-2 g c = let s = miss_at c.args.desks.now c.in-Some.next.tenant c.args.self.now c.sought.new.self c.in_ok-hit.field-0 c.in_default-2.is c.in_ok-hit.ensures in
    operates_missed c.args.desks.now c.args.self.now c.sought.new.self c.missed.new.self c.missed.result c.requires.ledger c.requires.none s c.missed.ensures.done c.missed.ensures.waits

pub found-requires-clause-out : goal.found-requires-clause-out
found-requires-clause-out g c = let h = hit_at c.args.desks.now c.in-Some.next.tenant c.args.self.now c.sought.new.self c.in_ok-hit.field-0 c.in-Some-2.hit c.in-Some-2.is c.in_ok-hit.ensures in
    hit_out c.args.desks.now c.in-Some.next.tenant c.in-Some-2.hit.fabric c.in-Some-2.hit.transit c.args.self.now c.sought.new.self c.requires.ledger h

pub found-requires-clause-next : goal.found-requires-clause-next
found-requires-clause-next g c = let h = hit_at c.args.desks.now c.in-Some.next.tenant c.args.self.now c.sought.new.self c.in_ok-hit.field-0 c.in-Some-2.hit c.in-Some-2.is c.in_ok-hit.ensures in
    hit_next c.args.desks.now c.in-Some.next.tenant c.in-Some-2.hit.fabric c.in-Some-2.hit.transit c.args.self.now c.sought.new.self h
    (subst (λ (w : Bool). IsNext c.in-Some.next.tenant w c.args.self.now.orders.items) c.if-next.false c.in-Some.ensures)

pub returns : goal.returns
returns g c = let h = hit_at c.args.desks.now c.in-Some.next.tenant c.args.self.now c.sought.new.self c.in_ok-hit.field-0 c.in-Some-2.hit c.in-Some-2.is c.in_ok-hit.ensures in
    operates_found c.args.desks.now c.in-Some.next.tenant c.in-Some-2.hit.fabric c.in-Some-2.hit.transit c.args.self.now c.sought.new.self c.found.new.self c.requires.ledger c.requires.none h c.in_ok-found.ensures
