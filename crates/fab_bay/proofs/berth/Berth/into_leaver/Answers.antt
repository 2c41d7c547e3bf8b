use Rattle.fab_bay.proofs.Leavers.{stay_more}
use Rattle.fab_bay.proofs.berth.Berth.into_leaver.Goals as goal

pub invariant_of-result-clause-chained : goal.invariant_of-result-clause-chained
invariant_of-result-clause-chained c = stay_more _ c.args.fabric c.args.self.since _ _ c.args.self.by_move c.args.self.stays.items _ c.push_reserved.ensures.items c.ticks.ensures c.requires.order c.requires.chained
