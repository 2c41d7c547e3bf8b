use Rattle.std.proofs.Common.{arith}
use Rattle.fab_bay.specs.Ways.{transits}
use Rattle.fab_bay.proofs.Going.{none}
use Rattle.fab_bay.proofs.Rounds.{onward}
use Rattle.fab_bay.proofs.noted.NotedCore.before_cycle.Goals as goal

pub rests-init : goal.rests-init
rests-init c = record { ready = c.requires.ready; whys = c.requires.whys; goes = none c.args.number c.args.self.now (transits c.args.leaving.now.items) }

pub rests-preserved : goal.rests-preserved
rests-preserved c = record {
  ready = c.step_to_cycle.ensures.ready;
  whys = c.step_to_cycle.ensures.whys;
  goes =
      onward c.args.number 0 0 0 c.args.self.now c.rests.self c.step_to_cycle.new.self (transits c.args.leaving.now.items) (transits c.rests.leaving.items) (transits c.step_to_cycle.new.leaving.items)
      c.rests.invariant.goes c.step_to_cycle.ensures.goes (omega arith);
}

pub returns-in-Ok-true-clause-goes : goal.returns-in-Ok-true-clause-goes
returns-in-Ok-true-clause-goes c =
    onward c.args.number 0 0 0 c.args.self.now c.rests.self c.step_to_cycle.new.self (transits c.args.leaving.now.items) (transits c.rests.leaving.items) (transits c.step_to_cycle.new.leaving.items)
    c.rests.invariant.goes c.step_to_cycle.ensures.goes (omega arith)

pub returns-in-Ok-true-clause-settled : goal.returns-in-Ok-true-clause-settled
returns-in-Ok-true-clause-settled c = c.in-Ok-true.ensures.settled cc

pub returns-in-Ok-true-clause-steps : goal.returns-in-Ok-true-clause-steps
returns-in-Ok-true-clause-steps c = c.in-Ok-true.ensures.steps cc

pub returns-in-Err-clause-goes : goal.returns-in-Err-clause-goes
returns-in-Err-clause-goes c =
    onward c.args.number 0 0 0 c.args.self.now c.rests.self c.step_to_cycle.new.self (transits c.args.leaving.now.items) (transits c.rests.leaving.items) (transits c.step_to_cycle.new.leaving.items)
    c.rests.invariant.goes c.step_to_cycle.ensures.goes (omega arith)
