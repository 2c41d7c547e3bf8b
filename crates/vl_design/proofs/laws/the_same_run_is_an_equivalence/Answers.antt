use Rattle.vl_design.proofs.Same.{same_self, same_back, same_on}
use Rattle.vl_design.proofs.laws.the_same_run_is_an_equivalence.Goals as goal

pub returns : goal.returns
returns c = record { reflexive = same_self; symmetric = same_back; transitive = same_on }
