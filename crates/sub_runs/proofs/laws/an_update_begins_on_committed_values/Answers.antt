use Rattle.sub_runs.proofs.Committed.{comes_ready}
use Rattle.sub_runs.proofs.laws.an_update_begins_on_committed_values.Goals as goal

pub returns : goal.returns
returns c = λ o nets n i x. comes_ready o nets x
