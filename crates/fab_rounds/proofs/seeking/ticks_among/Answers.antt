use Rattle.std.proofs.Common.{sym, ap, ◌∙◌, arith}
use Rattle.fab_rounds.specs.Ledgers.{ended_at}
use Rattle.fab_rounds.proofs.Begins.{total_least}
use Rattle.fab_rounds.proofs.Ordered.{ended_is}
use Rattle.fab_rounds.proofs.seeking.ticks_among.Goals as goal

pub returns-then-number-tenant : goal.returns-then-number-tenant
returns-then-number-tenant c =
    let w = ended_at c.args.tenant c.ticks.result in let e = c.transit-item.result in
    let one = ended_is c.args.tenant c.ticks.result e (sym c.number.ensures ∙ c.if-number-tenant.true) (sym c.ticks.ensures) in
    let least = total_least w c.args.done.now c.loop-transit.transit-index e c.loop-transit-test.true in
    omega (arith, one, least, ap w c.transit-item.is)
