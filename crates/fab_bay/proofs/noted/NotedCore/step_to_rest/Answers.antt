use Rattle.std.proofs.Common.{◌≡◌, true, false, [], sym, ◌∙◌, arith}
use Rattle.fab_core.specs.fab_model.specs.Fabrics.{held}
use Rattle.fab_bay.proofs.Acts.{acts-by, cycle-nearer}
use Rattle.fab_bay.proofs.Near.{none-then}
use Rattle.fab_bay.proofs.Rounds.{both, ready-on}
use Rattle.fab_bay.proofs.Wanted.{held-steps}
use Rattle.fab_bay.proofs.noted.NotedCore.step_to_rest.Goals as goal

pub returns-in-Ok-true-clause-goes : goal.returns-in-Ok-true-clause-goes
returns-in-Ok-true-clause-goes c = (0, c.serve_to_call.ensures.goes)

pub returns-in-Err-clause-goes : goal.returns-in-Err-clause-goes
returns-in-Err-clause-goes c = (0, c.serve_to_call.ensures.goes)

pub returns-then-is_at_rest-clause-goes : goal.returns-then-is_at_rest-clause-goes
returns-then-is_at_rest-clause-goes c = (0, both c.args.number 0 0 0 c.args.self.now c.serve_to_call.new.self c.hold_on.new.self c.serve_to_call.ensures.goes c.hold_on.ensures.goes (omega arith))

pub returns-then-is_at_rest-clause-near : goal.returns-then-is_at_rest-clause-near
returns-then-is_at_rest-clause-near c = none-then c.args.self.now c.serve_to_call.new.self c.hold_on.new.self c.serve_to_call.ensures.near c.hold_on.ensures.near

pub returns-clause-near : goal.returns-clause-near
returns-clause-near c =
    let x = c.args.self.now in
    let held = c.hold_on.new.self in
    none-then x held c.cycle.new.self (none-then x c.serve_to_call.new.self held c.serve_to_call.ensures.near c.hold_on.ensures.near) (c.cycle.ensures.near c.hold_on.ensures.holds)

pub cycle-requires-clause-steps : goal.cycle-requires-clause-steps
cycle-requires-clause-steps c =
    let ready = c.serve_to_call.ensures.ready in
    let f = ready.fabric in
    let h = c.hold_on.ensures.held f ready.noted in
    let no_call : c.in-Ok-false.field-0 ≡ false = cc in
    (held f, h, held-steps f (c.in-Ok-false.ensures.quiet no_call f ready.noted) (c.is_at_rest.ensures (held f) h ∙ c.if-is_at_rest.false))

pub cycle-requires-clause-order : goal.cycle-requires-clause-order
cycle-requires-clause-order c = λ f n free. let z : ◌≡◌ true false = sym c.hold_on.ensures.holds ∙ (n.core.holding ∙ free) in let y : ⊥ = cc in absurd y

pub returns-clause-ready : goal.returns-clause-ready
returns-clause-ready c =
    let r = c.hold_on.ensures.ready in
    ready-on c.args.number 1 c.hold_on.new.self c.cycle.new.self r (c.cycle.ensures.goes c.args.number []) (c.cycle.ensures.room r.room)

pub returns-clause-goes : goal.returns-clause-goes
returns-clause-goes c =
    let k = c.args.number in
    let x = c.args.self.now in
    let held = c.hold_on.new.self in (
      1,
      both k 0 1 1 x held c.cycle.new.self (both k 0 0 0 x c.serve_to_call.new.self held c.serve_to_call.ensures.goes c.hold_on.ensures.goes (omega arith)) (c.cycle.ensures.goes k) (omega arith),
    )

pub returns-clause-nearer : goal.returns-clause-nearer
returns-clause-nearer c = λ _.
    let served = c.serve_to_call.new.self in
    let still = c.hold_on.new.self in
    let ready = c.serve_to_call.ensures.ready in
    let f = ready.fabric in
    let h = c.hold_on.ensures.held f ready.noted in
    let a = acts-by served.core f ready.noted.core in
    let b = acts-by still.core (held f) h.core in
    let no_call : c.in-Ok-false.field-0 ≡ false = cc in
    let d = c.in-Ok-false.ensures.still no_call in
    let e = cycle-nearer c.each_act_comes_nearer.ensures.cycle_nearer still.core c.cycle.new.self.core f h.core (c.cycle.ensures.core (held f) h) (c.in-Ok-false.ensures.quiet no_call f ready.noted)
    (c.is_at_rest.ensures (held f) h ∙ c.if-is_at_rest.false) in
    omega (arith, a, b, d, e)
