use Rattle.fab_model.proofs.Places.{never_fewer}
use Rattle.fab_model.proofs.laws.acts_never_become_fewer.Goals as goal

pub returns : goal.returns
returns c = never_fewer
