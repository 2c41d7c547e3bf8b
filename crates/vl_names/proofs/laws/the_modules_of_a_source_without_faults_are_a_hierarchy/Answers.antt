use Rattle.vl_names.proofs.Sound.{there, ends}
use Rattle.vl_names.proofs.laws.the_modules_of_a_source_without_faults_are_a_hierarchy.Goals as goal

pub returns : goal.returns
returns c = record { there = there; ends = ends }
