use Rattle.snap_form.proofs.Formed.{bytes_are}
use Rattle.snap_form.proofs.Whole.{read_found}
use Rattle.snap_form.proofs.laws.what_is_read_is_spelt_so.Goals as goal

pub returns : goal.returns
returns c = λ rows set bytes s fits h. read_found rows set bytes s (bytes_are bytes fits) h
