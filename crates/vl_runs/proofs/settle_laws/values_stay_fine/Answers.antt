use Rattle.vl_runs.proofs.Fine.{comes_fine}
use Rattle.vl_runs.proofs.settle_laws.values_stay_fine.Goals as goal

pub returns : goal.returns
returns c = λ o q h y. comes_fine o h y
