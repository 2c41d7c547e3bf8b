use Rattle.vl_elab.proofs.Once.{elaborated_once}
use Rattle.vl_elab.proofs.laws.a_source_has_one_elaboration.Goals as goal

pub returns : goal.returns
returns c = elaborated_once
