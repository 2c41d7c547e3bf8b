use Rattle.vl_design.proofs.Acting.{before_after}
use Rattle.vl_design.proofs.laws.a_call_leads_from_before_to_after.Goals as goal

pub returns : goal.returns
returns c = λ o c task b p x a. before_after x a
