use Rattle.std.proofs.Common.{◌≡◌, arith, ap, sym, ◌∙◌, subst}
use Rattle.std.proofs.lemmas.Bool.{iff_false}
use Rattle.vl_design.specs.declared.capacity.Cost.{Cost}
use Rattle.vl_design.specs.Costs.{Fits}
use Rattle.ten_core.specs.declared.origin.Origin.{Origin}
use Rattle.fab_model.specs.Fabrics.{plus}
use Rattle.fab_core.proofs.Counted.{cost_in, counted_all, counted_more, counted_stop}
use Rattle.fab_core.proofs.rebuild.joining_of.Goals as goal

pub returns-then-not-fits-clause-count : goal.returns-then-not-fits-clause-count
returns-then-not-fits-clause-count c = λ ps w.
    let t = c.tenant-item.result in
    let all = c.loop-tenant.all in
    let h = c.loop-tenant.invariant in
    let same : c.deref.result.now.image.cost ≡ cost_in t = ap (λ (o : Origin). o.image.cost) c.deref.ensures in
    let fails : Fits all (cost_in t) c.args.capacity → ⊥ = λ x. iff_false c.fits.ensures c.if-not-fits.true (subst (λ (k : Cost). Fits all k c.args.capacity) (sym same) x) in
    h.count ∙ counted_stop c.args.line.now c.args.used c.args.capacity c.loop-tenant.tenant-index all h.counted t (omega arith) c.tenant-item.is fails ps w

pub loop-tenant-preserved : goal.loop-tenant-preserved
loop-tenant-preserved c =
    let t = c.tenant-item.result in
    let all = c.loop-tenant.all in
    let h = c.loop-tenant.invariant in
    let same : c.deref.result.now.image.cost ≡ cost_in t = ap (λ (o : Origin). o.image.cost) c.deref.ensures in
    let fits : Fits all c.deref.result.now.image.cost c.args.capacity = c.fits.ensures.0 c.if-not-fits.false in
    let next : Cost = plus all c.deref.result.now.image.cost in
    record {
      count = omega arith;
      counted = counted_more c.args.line.now c.args.used c.args.capacity c.loop-tenant.tenant-index all h.counted t (omega arith) c.tenant-item.is next
          (subst (λ (k : Cost). Fits all k c.args.capacity) same fits) (ap (plus all) same);
    }

pub returns-clause-count : goal.returns-clause-count
returns-clause-count c = λ ps w.
    let h = c.loop-tenant.invariant in
    h.count ∙ counted_all c.args.line.now c.args.used c.args.capacity c.loop-tenant.tenant-index c.loop-tenant.all h.counted (omega arith) ps w
