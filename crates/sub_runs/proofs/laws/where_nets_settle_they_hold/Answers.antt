use Rattle.sub_runs.proofs.Holding.{settled_hold}
use Rattle.sub_runs.proofs.laws.where_nets_settle_they_hold.Goals as goal

pub returns : goal.returns
returns c = λ d order files s to k o f fine rest. settled_hold d k files order o s f fine rest to
