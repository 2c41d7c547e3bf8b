use Rattle.host_outcomes.proofs.All.{all_reported}
use Rattle.host_outcomes.proofs.laws.all_tenants_are_reported.Goals as goal

pub returns : goal.returns
returns c = λ s tenants refusals readies labels starts orders out answers xs j g a b h did e. all_reported s tenants refusals readies labels starts orders out answers xs j g a b h did e
