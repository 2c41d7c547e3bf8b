use Rattle.std.proofs.Common.{true}
use Rattle.fab_rounds.proofs.Ordered.{next_tenant, sought_ledger, watch_tells}
use Rattle.fab_rounds.proofs.Taken.{on_ok}
use Rattle.fab_rounds.proofs.ledgers.Ledger.watched.Goals as goal

pub progress-ticks-requires-clause-tenant : goal.progress-ticks-requires-clause-tenant
progress-ticks-requires-clause-tenant c = next_tenant c.args.self.now c.args.tenant true c.requires.ledger.kept c.requires.next

pub tell-requires-clause-kept : goal.tell-requires-clause-kept
tell-requires-clause-kept c = (sought_ledger c.args.desks.now c.args.self.now c.progress-ticks.new.self c.requires.ledger c.progress-ticks.ensures.seeks).kept

pub tell-requires-clause-tells : goal.tell-requires-clause-tells
tell-requires-clause-tells c = let e = c.progress-ticks.ensures in
    watch_tells c.args.desks.now c.args.self.now c.progress-ticks.new.self c.args.tenant c.progress-ticks.result c.requires.ledger c.requires.begun c.requires.next e.seeks e.above e.below

pub returns : goal.returns
returns c = on_ok c.tell.result (λ t. (c.progress-ticks.new.self, c.progress-ticks.ensures.seeks, t)) c.tell.ensures
