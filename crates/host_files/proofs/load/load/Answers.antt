use Rattle.std.proofs.Common.{◌∙◌, refl, arith}
use Rattle.std.proofs.lemmas.Result.{err_from_is_err_and}
use Rattle.host_files.proofs.Causes.{handed, noted-handed, none-noted}
use Rattle.host_files.proofs.Tenants.{none-loaded, next-read, next-missed, all-available}
use Rattle.host_files.proofs.load.load.Goals as goal

pub loop-line-init : goal.loop-line-init
loop-line-init g c = record { told = refl; faults = omega arith; absences = omega arith; missed = refl; loaded = rw c.new-all.ensures.items (none-loaded _ _) }

pub loop-line-preserved : goal.loop-line-preserved
loop-line-preserved g c =
    let r = c.loop-line.invariant in
    let a = c.in_ok-loaded.ensures in
    record {
      told = a.told ∙ r.told;
      faults = omega (arith, r.faults, a.faults);
      absences = omega (arith, r.absences, a.absences);
      missed = none-noted _ _ _ _ c.in_ok-loaded.was c.read_tenant.ensures.noted ∙ r.missed;
      loaded = rw (c.push.ensures.items, c.in-Ok.is)
          (next-read _ _ c.as_slice-line-items.result.now _ c.line-item.result _ c.in_ok-loaded.loaded _ _ c.loop-line-test.true c.line-item.is r.told r.loaded a.loaded a.within a.room);
    }

pub returns-in_err-loaded-clause-noted : goal.returns-in_err-loaded-clause-noted
returns-in_err-loaded-clause-noted g c =
    noted-handed _ _ _ _ _ _ c.loop-line.invariant.missed c.read_tenant.ensures.noted c.in_err-loaded.was (err_from_is_err_and c.from_residual.result c.from_residual.ensures.1)

pub returns-in_err-loaded-clause-missed : goal.returns-in_err-loaded-clause-missed
returns-in_err-loaded-clause-missed g c = λ asked why e.
    let r = c.loop-line.invariant in
    let came = handed _ _ _ _ c.in_err-loaded.was (err_from_is_err_and c.from_residual.result c.from_residual.ensures.1) e in
    let m = c.read_tenant.ensures.missed asked why came in
    next-missed _ _ _ _ _ _ _ _ c.as_slice-line-items.result.now _ c.line-item.result _ _ asked why c.as_slice-line-items.ensures c.loop-line-test.true c.line-item.is r.told r.faults r.absences r.loaded m

pub returns-clause-within : goal.returns-clause-within
returns-clause-within g c = all-available _ _ _ _ _ _ c.as_slice-line-items.ensures c.loop-line-test.false c.loop-line.invariant.loaded
