use Rattle.vl_uses.proofs.Listed.{use_faults-law}
use Rattle.vl_uses.proofs.laws.the_list_has_the_use_faults.Goals as goal

pub returns : goal.returns
returns c = use_faults-law
