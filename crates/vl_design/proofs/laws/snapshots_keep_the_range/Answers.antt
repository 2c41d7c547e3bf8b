use Rattle.vl_design.proofs.Fine.{kept_fine}
use Rattle.vl_design.proofs.laws.snapshots_keep_the_range.Goals as goal

pub returns : goal.returns
returns c = λ rows s f. kept_fine rows s.values f
