use Rattle.std.proofs.Common.{refl}
use Rattle.fab_rounds.proofs.Stopping.{before_still, chained_still, run_at, stopped_is_so, ticks_at}
use Rattle.fab_rounds.proofs.shells.stopped.Goals as goal

pub invariant_of-result-clause-chained : goal.invariant_of-result-clause-chained
invariant_of-result-clause-chained c = let t = c.args.transit in let p = c.requires.0 in let h = c.requires.1 in let q = c.stop.new.parcel in let k = c.stop.ensures p h in
    chained_still t q (run_at t.parcel q p _ h k refl) (ticks_at t.parcel q p _ h k refl)

pub invariant_of-result-clause-before_end : goal.invariant_of-result-clause-before_end
invariant_of-result-clause-before_end c = let t = c.args.transit in let p = c.requires.0 in let h = c.requires.1 in let q = c.stop.new.parcel in let k = c.stop.ensures p h in
    before_still t q (run_at t.parcel q p _ h k refl) (ticks_at t.parcel q p _ h k refl)

pub returns : goal.returns
returns c = stopped_is_so c.args.transit _ c.requires.0 c.requires.1 (c.stop.ensures c.requires.0 c.requires.1) refl refl
