use Rattle.vl_design.proofs.Fine.{acts_fine, calls_fine}
use Rattle.vl_design.proofs.laws.values_stay_in_range_act_by_act.Goals as goal

pub returns : goal.returns
returns c = record { after = λ o c p n a. acts_fine n a; before = λ o c task p n b. calls_fine n b }
