use Rattle.fab_model.proofs.Places.{one_place, same_loaded}
use Rattle.fab_model.proofs.laws.each_tenant_is_in_one_place.Goals as goal

pub returns-clause-one : goal.returns-clause-one
returns-clause-one c = one_place

pub returns-clause-same : goal.returns-clause-same
returns-clause-same c = same_loaded
