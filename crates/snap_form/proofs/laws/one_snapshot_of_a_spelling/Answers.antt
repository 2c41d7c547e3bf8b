use Rattle.snap_form.proofs.Whole.{one_snapshot}
use Rattle.snap_form.proofs.laws.one_snapshot_of_a_spelling.Goals as goal

pub returns : goal.returns
returns c = one_snapshot
