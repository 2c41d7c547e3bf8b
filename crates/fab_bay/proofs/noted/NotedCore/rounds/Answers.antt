use Rattle.std.proofs.Common.{◌+◌, arith, inr}
use Rattle.fab_bay.specs.Ways.{transits}
use Rattle.fab_bay.proofs.Going.{none}
use Rattle.fab_bay.proofs.Rounds.{onward}
use Rattle.fab_bay.proofs.noted.NotedCore.rounds.Goals as goal

pub loop-done-init : goal.loop-done-init
loop-done-init c = record { ready = c.requires.ready; goes = none c.args.number c.args.self.now (transits c.args.leaving.now.items); whys = c.requires.whys }

pub returns-in-Ok-false-clause-rounds : goal.returns-in-Ok-false-clause-rounds
returns-in-Ok-false-clause-rounds c =
    let n = c.loop-done.done in
    let a = transits c.args.leaving.now.items in
    let b = transits c.loop-done.leaving.items in
    let d = transits c.round.new.leaving.items in
    record {
      cycles = n;
      goes = onward c.args.number n 0 n c.args.self.now c.loop-done.self c.round.new.self a b d c.loop-done.invariant.goes (c.in-Ok-false.ensures.none cc) (omega arith);
      few = omega arith;
      all = λ _. inr (c.in-Ok-false.ensures.vacant cc);
    }

pub returns-in-Err-clause-rounds : goal.returns-in-Err-clause-rounds
returns-in-Err-clause-rounds c =
    let n = c.loop-done.done in
    let a = transits c.args.leaving.now.items in
    let b = transits c.loop-done.leaving.items in
    let d = transits c.round.new.leaving.items in
    record {
      cycles = n;
      goes = onward c.args.number n 0 n c.args.self.now c.loop-done.self c.round.new.self a b d c.loop-done.invariant.goes c.in-Err.ensures.err (omega arith);
      few = omega arith;
      all = λ e. let z : ⊥ = cc in absurd z;
    }

pub loop-done-preserved : goal.loop-done-preserved
loop-done-preserved c =
    let n = c.loop-done.done in
    let a = transits c.args.leaving.now.items in
    let b = transits c.loop-done.leaving.items in
    let d = transits c.round.new.leaving.items in
    record {
      ready = c.round.ensures.ready;
      whys = c.round.ensures.whys;
      goes = onward c.args.number n 1 (n + 1) c.args.self.now c.loop-done.self c.round.new.self a b d c.loop-done.invariant.goes (c.in-Ok-true.ensures.cycle cc) (omega arith);
    }
