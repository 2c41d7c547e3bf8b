use Rattle.std.proofs.Common.{◌≡◌, ◌+◌, suc, true, false, drop, refl, sym, ap, ◌∙◌, arith}
use Rattle.std.specs.Prelude.{if◌then◌else◌}
use Rattle.std.proofs.lemmas.List.{at_drop_all}
use Rattle.fab_model.specs.Fabrics.{can_step, steppers}
use Rattle.fab_core.proofs.Looks.{looked-all, looked-at, step-more}
use Rattle.fab_core.proofs.cores.FabCore.can_cycle.Goals as goal

pub can_step-requires : goal.can_step-requires
can_step-requires c =
    let x = c.args.self.now in
    let r = c.resident-item.result in
    let i = c.loop-resident.resident-index in
    let s = looked-at x c.requires.0 c.deref-resident-items.result.now i r c.deref-resident-items.ensures.value c.loop-resident-test.true c.resident-item.is c.requires.1 in
    (x.joined, s.point, s.stands)

pub loop-resident-preserved : goal.loop-resident-preserved
loop-resident-preserved c = λ f h.
    let x = c.args.self.now in
    let r = c.resident-item.result in
    let i = c.loop-resident.resident-index in
    let s = looked-at x f c.deref-resident-items.result.now i r c.deref-resident-items.ensures.value c.loop-resident-test.true c.resident-item.is h in
    let k : can_step f.holding s.point ≡ false = ap (λ y. can_step y s.point) (sym h.holding) ∙ sym (c.can_step.ensures x.joined s.point s.stands) ∙ c.if-can_step.false in
    c.loop-resident.invariant f h ∙ step-more f.residents i s.point s.there s.is f.holding ∙ ap (λ y. if y then suc (steppers f.holding (drop (i + 1) f.residents)) else steppers f.holding (drop (i + 1) f.residents)) k

pub returns-then-can_step : goal.returns-then-can_step
returns-then-can_step c = λ f h.
    let x = c.args.self.now in
    let r = c.resident-item.result in
    let i = c.loop-resident.resident-index in
    let s = looked-at x f c.deref-resident-items.result.now i r c.deref-resident-items.ensures.value c.loop-resident-test.true c.resident-item.is h in
    let k : can_step f.holding s.point ≡ true = ap (λ y. can_step y s.point) (sym h.holding) ∙ sym (c.can_step.ensures x.joined s.point s.stands) ∙ c.if-can_step.true in
    let e = c.loop-resident.invariant f h ∙ step-more f.residents i s.point s.there s.is f.holding ∙ ap (λ y. if y then suc (steppers f.holding (drop (i + 1) f.residents)) else steppers f.holding (drop (i + 1) f.residents)) k in
    (λ z. omega (arith, e), λ z. refl)

pub returns : goal.returns
returns c = λ f h.
    let x = c.args.self.now in
    let i = c.loop-resident.resident-index in
    let e = c.loop-resident.invariant f h ∙ at_drop_all (steppers f.holding) f.residents i (looked-all x f c.deref-resident-items.result.now i c.deref-resident-items.ensures.value c.loop-resident-test.false h) in
    (λ z. let w : ⊥ = cc in absurd w, λ lt. let w : ⊥ = omega (arith, e, lt) in absurd w)
