use Rattle.std.proofs.Common.{[], map, take, refl, sym, ap, ◌∙◌, subst, arith, List}
use Rattle.std.proofs.lemmas.List.{drop_all}
use mathlib.Core.Logic.{inl}
use Rattle.vl_design.specs.Stops.{earliest}
use Rattle.vl_check.specs.declared.calls.Save.{Save as Call}
use Rattle.vl_check.specs.Saves.{save_faults}
use Rattle.vl_check.specs.SeenOfSaves.{save_of, Tells}
use Rattle.vl_check.proofs.Counting.{tells-at, faults-at}
use Rattle.vl_check.proofs.saves.calls_fault.Goals as goal

pub loop-call-init : goal.loop-call-init
loop-call-init c = record {
  tells = subst (λ (zs : List Call). Tells (map save_of zs) []) (sym c.new-ones.ensures.items) (inl (refl, omega arith));
  rest = refl;
}

pub loop-call-preserved : goal.loop-call-preserved
loop-call-preserved c =
    let cs = c.args.calls.now in
    let i = c.loop-call.call-index in
    let ones = map save_of c.loop-call.ones.items in
    let v = c.loop-call.invariant in
    record {
      tells = tells-at cs i _ ones (map save_of c.add_new.new.ones.items) c.loop-call-test.true v.tells c.in_ok-add_new.ensures;
      rest = faults-at cs i _ c.loop-call.ones.items c.as_slice.result.now c.is_past.result c.loop-call.best c.limit_if-best.result _ c.loop-call-test.true v.tells c.as_slice.ensures.value c.is_past.ensures c.limit_if-best.ensures v.rest;
    }

pub returns : goal.returns
returns c = ap (λ (zs : List Call). earliest c.loop-call.best (save_faults (map save_of (take c.loop-call.call-index c.args.calls.now)) (map save_of zs))) (sym (drop_all c.loop-call.call-index c.args.calls.now c.loop-call-test.false)) ∙ c.loop-call.invariant.rest
