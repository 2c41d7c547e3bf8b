use Rattle.fab_rounds.proofs.Begins.{begun_still}
use Rattle.fab_rounds.proofs.Ordered.{operates_on, operates_same}
use Rattle.fab_rounds.proofs.operating.operated.Goals as goal

pub loop-init : goal.loop-init
loop-init g c = operates_same c.args.desks.now c.args.ledger c.requires.ledger c.requires.none

pub tried-requires-clause-begun : goal.tried-requires-clause-begun
tried-requires-clause-begun g c = let o = c.loop.invariant in begun_still c.args.ledger c.loop.ledger c.requires.begun o.same.0 o.reach

pub loop-preserved : goal.loop-preserved
loop-preserved g c = let o = c.loop.invariant in operates_on c.args.desks.now c.args.ledger c.loop.ledger c.tried.new.self o c.in_ok-tried.ensures
