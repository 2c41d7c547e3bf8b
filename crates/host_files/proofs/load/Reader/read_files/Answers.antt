use Rattle.std.proofs.Common.{◌∙◌, refl, arith}
use Rattle.std.proofs.lemmas.Result.{err_from_is_err_and}
use Rattle.host_files.proofs.Causes.{handed, noted-handed, none-noted}
use Rattle.host_files.proofs.Filing.{none-read, new-name, next-read, next-missed}
use Rattle.host_files.proofs.load.Reader.read_files.Goals as goal

pub read_file-requires-clause-new : goal.read_file-requires-clause-new
read_file-requires-clause-new g c =
    new-name _ c.args.lines.now _ c.line-item.result _ _ _ c.loop-line-test.true c.line-item.is c.requires.different c.loop-line.invariant.read

pub loop-line-init : goal.loop-line-init
loop-line-init g c = record { told = refl; faults = omega arith; absences = omega arith; missed = refl; read = rw c.new-set.ensures (none-read _ _ _) }

pub loop-line-preserved : goal.loop-line-preserved
loop-line-preserved g c =
    let r = c.loop-line.invariant in
    let a = c.in_ok-read_file.ensures in
    record {
      told = a.told ∙ r.told;
      faults = omega (arith, r.faults, a.faults);
      absences = omega (arith, r.absences, a.absences);
      missed = none-noted _ _ _ _ c.in_ok-read_file.was c.read_file.ensures.noted ∙ r.missed;
      read = next-read _ _ c.args.lines.now _ c.line-item.result _ _ _ _ _ c.loop-line-test.true c.line-item.is r.told r.read a.added;
    }

pub returns-in_err-read_file-clause-noted : goal.returns-in_err-read_file-clause-noted
returns-in_err-read_file-clause-noted g c =
    noted-handed _ _ _ _ _ _ c.loop-line.invariant.missed c.read_file.ensures.noted c.in_err-read_file.was (err_from_is_err_and c.from_residual.result c.from_residual.ensures.1)

pub returns-in_err-read_file-clause-missed : goal.returns-in_err-read_file-clause-missed
returns-in_err-read_file-clause-missed g c = λ asked why e.
    let r = c.loop-line.invariant in
    let came = handed _ _ _ _ c.in_err-read_file.was (err_from_is_err_and c.from_residual.result c.from_residual.ensures.1) e in
    let m = c.read_file.ensures.missed asked why came in
    next-missed _ _ _ _ _ _ _ c.args.lines.now _ c.line-item.result _ _ _ asked why c.loop-line-test.true c.line-item.is r.told r.faults r.absences r.read m
