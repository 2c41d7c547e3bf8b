use Rattle.vl_accept.proofs.Rules.{checked}
use Rattle.vl_accept.proofs.settled_laws.an_accepted_design_is_checked.Goals as goal

pub returns : goal.returns
returns c = λ d fit acc. checked d fit acc
