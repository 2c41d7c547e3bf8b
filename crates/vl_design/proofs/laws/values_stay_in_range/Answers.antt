use Rattle.vl_design.proofs.Fine.{boundary_fine}
use Rattle.vl_design.proofs.laws.values_stay_in_range.Goals as goal

pub returns : goal.returns
returns c = λ o k q n x. boundary_fine n x
