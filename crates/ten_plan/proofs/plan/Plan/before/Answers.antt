use Rattle.std.proofs.Common.{◌+◌, map, drop, sym, subst, arith}
use Rattle.ten_plan.specs.Plans.{errand_of, AreBefore}
use Rattle.ten_plan.proofs.Ordered.{at-place, one-before, before-ends}
use Rattle.ten_plan.proofs.plan.Plan.before.Goals as goal

pub returns-then-errand-tick : goal.returns-then-errand-tick
returns-then-errand-tick c =
    let es = map errand_of c.args.self.now.errands in
    let i = c.loop-errand.errand-index in
    let e = c.errand-item.result in
    let here = at-place c.args.self.now.errands c.as_slice-errand-items.result.now i e c.as_slice-errand-items.ensures c.loop-errand-test.true c.errand-item.is in
    subst (AreBefore es c.args.tick) (sym c.loop-errand.invariant.counted)
    (before-ends es c.args.tick i (errand_of e) (drop (i + 1) es) here c.requires c.if-errand-tick.true c.loop-errand.invariant.earlier)

pub loop-errand-preserved : goal.loop-errand-preserved
loop-errand-preserved c =
    let es = map errand_of c.args.self.now.errands in
    let i = c.loop-errand.errand-index in
    let e = c.errand-item.result in
    let here = at-place c.args.self.now.errands c.as_slice-errand-items.result.now i e c.as_slice-errand-items.ensures c.loop-errand-test.true c.errand-item.is in
    record {
      counted = omega arith;
      earlier = one-before es c.args.tick i (errand_of e) (drop (i + 1) es) here c.if-errand-tick.false c.loop-errand.invariant.earlier;
    }
