use Rattle.std.proofs.Common.{refl}
use Rattle.std.proofs.lemmas.Result.{err_from_is_err_and}
use Rattle.host_files.proofs.Causes.{handed, asked-for, noted-handed}
use Rattle.host_files.proofs.load.Reader.read_file.Goals as goal

pub returns-in_err-bytes-clause-noted : goal.returns-in_err-bytes-clause-noted
returns-in_err-bytes-clause-noted g c =
    noted-handed _ _ _ _ _ _ refl c.read_at.ensures.noted c.in_err-bytes.was (err_from_is_err_and c.from_residual.result c.from_residual.ensures.1)

pub returns-in_err-bytes-clause-missed : goal.returns-in_err-bytes-clause-missed
returns-in_err-bytes-clause-missed g c = λ asked why e.
    let came = handed _ _ _ _ c.in_err-bytes.was (err_from_is_err_and c.from_residual.result c.from_residual.ensures.1) e in
    let m = c.read_at.ensures.missed asked why came in
    (m.0, asked-for _ _ _ _ _ _ _ why c.min.ensures m)
