use Rattle.std.proofs.Common.{◌∙◌, arith}
use Rattle.std.proofs.lemmas.Result.{err_from_is_err_and}
use Rattle.host_files.proofs.Causes.{handed}
use Rattle.host_files.proofs.Saving.{writing-more, writing-front, writing-lost, on-err}
use Rattle.host_files.proofs.Taking.{next-pair, still-long}
use Rattle.host_files.proofs.write.write_all.Goals as goal

pub tenants-preserved : goal.tenants-preserved
tenants-preserved g c =
    let n = next-pair c.tenants.tenant-iterator c.next.new.self c.next.result (c.in-Some.tenant, c.in-Some.kept) c.in-Some.is c.next.ensures.steps in
    record {
      writing = writing-more _ _ _ _ _ _ _ _ _ _ n.0 n.1 c.tenants.invariant.writing c.in_ok-write_kept.ensures.all;
      long = still-long _ _ _ _ _ n.1 n.2 c.tenants.invariant.long;
      faults = omega (arith, c.tenants.invariant.faults, c.in_ok-write_kept.ensures.faults);
      absences = c.in_ok-write_kept.ensures.absences ∙ c.tenants.invariant.absences;
      missed = c.in_ok-write_kept.ensures.missed ∙ c.tenants.invariant.missed;
    }

pub returns-in_err-write_kept-clause-front : goal.returns-in_err-write_kept-clause-front
returns-in_err-write_kept-clause-front g c =
    let n = next-pair c.tenants.tenant-iterator c.next.new.self c.next.result (c.in-Some.tenant, c.in-Some.kept) c.in-Some.is c.next.ensures.steps in
    on-err _ (writing-front _ _ _ _ _ _ _ _ _ _ n.0 n.1 c.tenants.invariant.writing c.in_err-write_kept.ensures.front)

pub returns-in_err-write_kept-clause-lost : goal.returns-in_err-write_kept-clause-lost
returns-in_err-write_kept-clause-lost g c = λ e.
    let n = next-pair c.tenants.tenant-iterator c.next.new.self c.next.result (c.in-Some.tenant, c.in-Some.kept) c.in-Some.is c.next.ensures.steps in
    let came = handed _ _ _ _ c.in_err-write_kept.was (err_from_is_err_and c.from_residual.result c.from_residual.ensures.1) e in
    writing-lost _ _ _ _ _ _ _ _ _ _ n.0 n.1 c.tenants.invariant.writing (c.write_kept.ensures.lost came)
