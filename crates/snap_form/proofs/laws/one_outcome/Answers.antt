use Rattle.snap_form.proofs.Formed.{either, never_both}
use Rattle.snap_form.proofs.laws.one_outcome.Goals as goal

pub returns-clause-either : goal.returns-clause-either
returns-clause-either c = either

pub returns-clause-never_both : goal.returns-clause-never_both
returns-clause-never_both c = never_both
