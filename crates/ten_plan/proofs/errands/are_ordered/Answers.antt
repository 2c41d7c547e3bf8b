use Rattle.std.proofs.Common.{◌≡◌, ◌+◌, ◌-◌, refl, sym, ◌∙◌, subst, arith}
use Rattle.ten_plan.proofs.Neighbours.{From, from-all, step, fails, last}
use Rattle.ten_plan.proofs.errands.are_ordered.Goals as goal

pub returns-then-not-may_precede : goal.returns-then-not-may_precede
returns-then-not-may_precede c =
    let es = c.args.errands.now in
    let m = c.loop-number.number in
    let n = m - 1 in
    let same : m ≡ n + 1 = omega arith in (
      λ t. absurd cc,
      λ h.
          sym c.if-not-may_precede.true ∙ (c.may_precede.ensures
          ∙ fails es n m _ _ same c.loop-number-test.true c.index-errands-number.is c.index-errands-number-in-loop-number.is (from-all es n h)),
    )

pub loop-number-preserved : goal.loop-number-preserved
loop-number-preserved c = λ m e h.
    let es = c.args.errands.now in
    let k = c.loop-number.number in
    let n = k - 1 in
    let same : k ≡ n + 1 = omega arith in
    let here : m ≡ k = omega arith in
    c.loop-number.invariant n same
    (step es n k _ _ same c.loop-number-test.true c.index-errands-number.is c.index-errands-number-in-loop-number.is (sym c.may_precede.ensures ∙ c.if-not-may_precede.false) (subst (From es) here h))

pub returns : goal.returns
returns c =
    let es = c.args.errands.now in
    let n = c.loop-number.number - 1 in
    (λ t. c.loop-number.invariant n (omega arith) (last es n (omega arith)), λ h. refl)
