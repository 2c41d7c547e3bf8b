use Rattle.std.proofs.Common.{◌+◌, refl}
use Rattle.fab_bay.proofs.Going.{none}
use Rattle.fab_bay.proofs.Near.{none-then}
use Rattle.fab_bay.proofs.Rounds.{both}
use Rattle.fab_bay.proofs.noted.NotedCore.run_to_rest.Goals as goal

pub acts-init : goal.acts-init
acts-init c = record { ready = c.requires.ready; near = λ most w. w; goes = (0, λ out. none c.args.number c.args.self.now out) }

pub returns-in-Ok-true-clause-goes : goal.returns-in-Ok-true-clause-goes
returns-in-Ok-true-clause-goes c =
    let g = c.acts.invariant.goes in
    let h = c.step_to_rest.ensures.goes in
    (g.0 + h.0, both c.args.number g.0 h.0 (g.0 + h.0) c.args.self.now c.acts.self c.step_to_rest.new.self g.1 h.1 refl)

pub returns-in-Err-clause-goes : goal.returns-in-Err-clause-goes
returns-in-Err-clause-goes c =
    let g = c.acts.invariant.goes in
    let h = c.step_to_rest.ensures.goes in
    (g.0 + h.0, both c.args.number g.0 h.0 (g.0 + h.0) c.args.self.now c.acts.self c.step_to_rest.new.self g.1 h.1 refl)

pub returns-in-Ok-true-clause-near : goal.returns-in-Ok-true-clause-near
returns-in-Ok-true-clause-near c = none-then c.args.self.now c.acts.self c.step_to_rest.new.self c.acts.invariant.near c.step_to_rest.ensures.near

pub returns-in-Err-clause-near : goal.returns-in-Err-clause-near
returns-in-Err-clause-near c = none-then c.args.self.now c.acts.self c.step_to_rest.new.self c.acts.invariant.near c.step_to_rest.ensures.near

pub acts-preserved : goal.acts-preserved
acts-preserved c =
    let g = c.acts.invariant.goes in
    let h = c.step_to_rest.ensures.goes in
    record {
      ready = c.step_to_rest.ensures.ready;
      near = none-then c.args.self.now c.acts.self c.step_to_rest.new.self c.acts.invariant.near c.step_to_rest.ensures.near;
      goes = (g.0 + h.0, both c.args.number g.0 h.0 (g.0 + h.0) c.args.self.now c.acts.self c.step_to_rest.new.self g.1 h.1 refl);
    }
