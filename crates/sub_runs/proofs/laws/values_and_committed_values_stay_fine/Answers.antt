use Rattle.sub_runs.proofs.Fine.{comes_fine}
use Rattle.sub_runs.proofs.laws.values_and_committed_values_stay_fine.Goals as goal

pub returns : goal.returns
returns c = λ o T order n i fine x. comes_fine o T order fine x
