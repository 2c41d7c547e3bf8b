use Rattle.std.proofs.Common.{◌∙◌, Err, refl, ap, arith}
use Rattle.std.proofs.lemmas.Result.{err_from_is_err_and}
use Rattle.host_files.proofs.Causes.{handed}
use Rattle.host_files.proofs.Saving.{saving-more, saving-front, saving-lost, on-err}
use Rattle.host_files.proofs.Taking.{next-item, still-long}
use Rattle.host_files.proofs.write.write_saved.Goals as goal

pub saves-preserved : goal.saves-preserved
saves-preserved g c =
    let k = c.args.kept in
    let n = next-item c.saves.next-iterator c.next.new.self c.next.result c.in-Some.next c.in-Some.is c.next.ensures.steps in
    let w = rw c.deref.ensures at c.in_ok-write_one.ensures.written in
    record {
      origin = refl;
      saving = saving-more _ k _ _ _ _ _ _ n.0 c.saves.invariant.saving w;
      long = still-long _ _ _ _ _ n.0 n.1 c.saves.invariant.long;
      faults = omega (arith, c.saves.invariant.faults, c.in_ok-write_one.ensures.faults);
      absences = c.in_ok-write_one.ensures.absences ∙ c.saves.invariant.absences;
      missed = c.in_ok-write_one.ensures.missed ∙ c.saves.invariant.missed;
    }

pub returns-in_err-write_one-clause-front : goal.returns-in_err-write_one-clause-front
returns-in_err-write_one-clause-front g c =
    let k = c.args.kept in
    let n = next-item c.saves.next-iterator c.next.new.self c.next.result c.in-Some.next c.in-Some.is c.next.ensures.steps in
    let r = c.in_err-write_one in
    on-err _ (saving-front _ k _ _ _ _ _ _ r.field-0.0 n.0 c.saves.invariant.saving (λ h. r.ensures.others (ap Err h)) (λ h. r.ensures.memory (ap Err h)))

pub returns-in_err-write_one-clause-lost : goal.returns-in_err-write_one-clause-lost
returns-in_err-write_one-clause-lost g c = λ e.
    let k = c.args.kept in
    let n = next-item c.saves.next-iterator c.next.new.self c.next.result c.in-Some.next c.in-Some.is c.next.ensures.steps in
    let came = handed _ _ _ _ c.in_err-write_one.was (err_from_is_err_and c.from_residual.result c.from_residual.ensures.1) e in
    saving-lost _ k _ _ _ _ _ _ n.0 c.saves.invariant.saving (c.write_one.ensures.others came)
