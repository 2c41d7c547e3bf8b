use Rattle.vl_design.proofs.Settling.{ends_once}
use Rattle.vl_design.proofs.laws.ends_once.Goals as goal

pub returns : goal.returns
returns c = λ o j k r s a b e f. ends_once o j k r s a b e f
