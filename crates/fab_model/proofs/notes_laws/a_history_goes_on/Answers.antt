use Rattle.std.proofs.Common.{[]}
use Rattle.fab_model.proofs.Legality.{goes_on, replay-snoc}
use Rattle.fab_model.proofs.notes_laws.a_history_goes_on.Goals as goal

pub returns-clause-legal : goal.returns-clause-legal
returns-clause-legal c = goes_on

pub returns-clause-replay : goal.returns-clause-replay
returns-clause-replay c = replay-snoc []
