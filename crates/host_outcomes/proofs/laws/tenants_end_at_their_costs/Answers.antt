use Rattle.host_outcomes.proofs.Giving.{costs-kept}
use Rattle.host_outcomes.proofs.laws.tenants_end_at_their_costs.Goals as goal

pub returns : goal.returns
returns c = costs-kept
