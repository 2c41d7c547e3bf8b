use Rattle.fab_lock.proofs.Raising.{raised}
use Rattle.fab_lock.proofs.laws.a_note_more_raises_its_word.Goals as goal

pub returns : goal.returns
returns g c = raised g.T.Kept.entry
