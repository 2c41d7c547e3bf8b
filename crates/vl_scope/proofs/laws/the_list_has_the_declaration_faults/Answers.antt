use Rattle.vl_scope.proofs.Listed.{declaration_faults-law}
use Rattle.vl_scope.proofs.laws.the_list_has_the_declaration_faults.Goals as goal

pub returns : goal.returns
returns c = declaration_faults-law
