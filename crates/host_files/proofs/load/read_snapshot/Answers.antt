use Rattle.std.proofs.Common.{◌∙◌, refl, sym, ap}
use Rattle.std.specs.Prelude.{Some}
use Rattle.std.proofs.lemmas.Result.{err_from_is_err_and}
use Rattle.host_files.proofs.Causes.{handed, asked-for, noted-handed}
use Rattle.host_files.proofs.load.read_snapshot.Goals as goal

pub returns-in_err-read_at-in-Some-clause-noted : goal.returns-in_err-read_at-in-Some-clause-noted
returns-in_err-read_at-in-Some-clause-noted g c =
    noted-handed _ _ _ _ _ _ refl c.read_at.ensures.noted c.in_err-read_at-in-Some.was (err_from_is_err_and c.from_residual.result c.from_residual.ensures.1)

pub returns-in_err-read_at-in-Some-clause-missed : goal.returns-in_err-read_at-in-Some-clause-missed
returns-in_err-read_at-in-Some-clause-missed g c = λ asked why e.
    let came = handed _ _ _ _ c.in_err-read_at-in-Some.was (err_from_is_err_and c.from_residual.result c.from_residual.ensures.1) e in
    let m = c.read_at.ensures.missed asked why came in
    (c.in-Some.is ∙ ap Some (sym m.0), asked-for _ _ _ _ _ _ _ why refl m)
