use Rattle.vl_sound.proofs.PartsOfAlike.{first-fault-same}
use Rattle.vl_sound.proofs.alike_laws.the_first_fault_does_not_depend_on_sizes.Goals as goal

pub returns : goal.returns
returns c = first-fault-same
