use Rattle.fab_core.proofs.Parcels.{has_point}
use Rattle.fab_core.proofs.laws.tenants_at_rest_have_points.Goals as goal

pub returns : goal.returns
returns c = has_point
