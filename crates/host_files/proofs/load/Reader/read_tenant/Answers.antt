use Rattle.std.proofs.Common.{◌∙◌, refl, arith}
use Rattle.std.proofs.lemmas.Result.{err_from_is_err_and}
use Rattle.host_files.specs.Steps as part
use Rattle.host_files.proofs.Causes.{handed, asked-for, cause-before, file-before, noted-handed, none-noted}
use Rattle.host_files.proofs.load.Reader.read_tenant.Goals as goal

pub returns-in_err-source-clause-noted : goal.returns-in_err-source-clause-noted
returns-in_err-source-clause-noted g c =
    noted-handed _ _ _ _ _ _ refl c.read_at.ensures.noted c.in_err-source.was (err_from_is_err_and c.from_residual.result c.from_residual.ensures.1)

pub returns-in_err-files-clause-noted : goal.returns-in_err-files-clause-noted
returns-in_err-files-clause-noted g c =
    noted-handed _ _ _ _ _ _ (none-noted _ _ _ _ c.in_ok-source.was c.read_at.ensures.noted) c.read_files.ensures.noted c.in_err-files.was
    (err_from_is_err_and c.from_residual-in_err-files.result c.from_residual-in_err-files.ensures.1)

pub returns-in_err-snapshot-clause-noted : goal.returns-in_err-snapshot-clause-noted
returns-in_err-snapshot-clause-noted g c =
    let source = none-noted _ _ _ _ c.in_ok-source.was c.read_at.ensures.noted in
    let files = none-noted _ _ _ _ c.in_ok-files.was c.read_files.ensures.noted in
    noted-handed _ _ _ _ _ _ (files ∙ source) c.read_snapshot.ensures.noted c.in_err-snapshot.was
    (err_from_is_err_and c.from_residual-in_err-snapshot.result c.from_residual-in_err-snapshot.ensures.1)

pub returns-in_err-source-clause-missed : goal.returns-in_err-source-clause-missed
returns-in_err-source-clause-missed g c = λ asked why e.
    let came = handed _ _ _ _ c.in_err-source.was (err_from_is_err_and c.from_residual.result c.from_residual.ensures.1) e in
    let m = c.read_at.ensures.missed asked why came in
    part.source m.0 (asked-for _ _ _ _ _ _ _ why refl m)

pub returns-in_err-files-clause-missed : goal.returns-in_err-files-clause-missed
returns-in_err-files-clause-missed g c = λ asked why e.
    let came = handed _ _ _ _ c.in_err-files.was (err_from_is_err_and c.from_residual-in_err-files.result c.from_residual-in_err-files.ensures.1) e in
    let m = rw c.as_slice.ensures at (c.read_files.ensures.missed asked why came) in
    part.file (file-before _ _ _ _ _ _ _ _ _ asked why c.read_at.ensures.told c.read_at.ensures.faults c.read_at.ensures.absences m)

pub returns-in_err-snapshot-clause-missed : goal.returns-in_err-snapshot-clause-missed
returns-in_err-snapshot-clause-missed g c = λ asked why e.
    let came = handed _ _ _ _ c.in_err-snapshot.was (err_from_is_err_and c.from_residual-in_err-snapshot.result c.from_residual-in_err-snapshot.ensures.1) e in
    let m = c.read_snapshot.ensures.missed asked why came in
    let a = c.read_at.ensures in
    let b = c.read_files.ensures in
    part.snapshot m.0 (cause-before _ _ _ _ _ _ _ asked _ why (b.told ∙ a.told) (omega (arith, a.faults, b.faults)) (omega (arith, a.absences, b.absences)) m.1)
