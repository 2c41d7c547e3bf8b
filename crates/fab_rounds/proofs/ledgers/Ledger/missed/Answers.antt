use Rattle.std.proofs.Common.{rules, ◌≡◌, ◌<◌, List, subst}
use Rattle.fab_core.specs.fab_model.specs.declared.transit.Transit.{Transit}
use Rattle.fab_orders.specs.Totals.{total}
use Rattle.fab_rounds.specs.Ledgers.{ended_at}
use Rattle.fab_rounds.proofs.Answered.{may_tell_ended}
use Rattle.fab_rounds.proofs.ledgers.Ledger.missed.Goals as goal

pub tell-requires-clause-tells : goal.tell-requires-clause-tells
tell-requires-clause-tells c =
    let e : c.as_slice.result.now ≡ c.args.self.now.done.items = search rules in
    may_tell_ended c.args.self.now c.args.tenant c.in-Some.ticks c.requires.next (subst (λ (xs : List Transit). 0 < total (ended_at c.args.tenant c.in-Some.ticks) xs) e c.in-Some.ensures)
