use Rattle.elab_laws.proofs.Written.{source-written}
use Rattle.elab_laws.proofs.writers_laws.processes_of_a_flat_design_write_what_is_theirs.Goals as goal

pub returns : goal.returns
returns c = source-written
