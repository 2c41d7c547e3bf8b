use Rattle.std.proofs.Common.{◌≡◌, true, false, sym, ◌∙◌}
use Rattle.fab_model.specs.Fabrics.{can_step}
use Rattle.fab_core.proofs.Standing.{stepped-stands, stays-stands}
use Rattle.fab_core.proofs.resident.Resident.step.Goals as goal

pub cycle-requires : goal.cycle-requires
cycle-requires c =
    let p = c.requires.0 in
    let h = c.requires.1 in
    (c.args.holding, p, h, sym (c.can_step-steps.ensures c.args.joined.now p h) ∙ c.if-steps.true)

pub returns-then-steps-clause-answer : goal.returns-then-steps-clause-answer
returns-then-steps-clause-answer c = λ p h. c.can_step-steps.ensures c.args.joined.now p h

pub returns-then-steps-clause-stands : goal.returns-then-steps-clause-stands
returns-then-steps-clause-stands c = λ p h.
    let can : can_step c.args.holding p ≡ true = sym (c.can_step-steps.ensures c.args.joined.now p h) ∙ c.if-steps.true in
    stepped-stands c.cycle.new.joined c.cycle.new.self c.args.holding p can (c.cycle.ensures.stands c.args.holding p h can)

pub returns-else-steps-clause-answer : goal.returns-else-steps-clause-answer
returns-else-steps-clause-answer c = λ p h. c.can_step-steps.ensures c.args.joined.now p h

pub returns-else-steps-clause-stands : goal.returns-else-steps-clause-stands
returns-else-steps-clause-stands c = λ p h.
    let can : can_step c.args.holding p ≡ false = sym (c.can_step-steps.ensures c.args.joined.now p h) ∙ c.if-steps.false in
    stays-stands c.args.joined.now c.args.self.now c.args.holding p can h
