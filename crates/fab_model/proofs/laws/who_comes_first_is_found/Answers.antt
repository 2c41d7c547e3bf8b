use Rattle.fab_model.proofs.Finding.{leaving_found, waiting_found}
use Rattle.fab_model.proofs.laws.who_comes_first_is_found.Goals as goal

pub returns-clause-waits : goal.returns-clause-waits
returns-clause-waits c = waiting_found

pub returns-clause-leaves : goal.returns-clause-leaves
returns-clause-leaves c = leaving_found
