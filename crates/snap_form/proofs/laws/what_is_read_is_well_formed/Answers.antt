use Rattle.snap_form.proofs.Formed.{well_formed}
use Rattle.snap_form.proofs.laws.what_is_read_is_well_formed.Goals as goal

pub returns : goal.returns
returns c = well_formed
