use Rattle.vl_names.proofs.Listed.{hierarchy-law}
use Rattle.vl_names.proofs.laws.the_list_has_the_hierarchy_faults.Goals as goal

pub returns : goal.returns
returns c = hierarchy-law
