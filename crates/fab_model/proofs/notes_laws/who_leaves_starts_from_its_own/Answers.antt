use Rattle.fab_model.proofs.Owns.{leavers_own}
use Rattle.fab_model.proofs.notes_laws.who_leaves_starts_from_its_own.Goals as goal

pub returns : goal.returns
returns c = leavers_own
