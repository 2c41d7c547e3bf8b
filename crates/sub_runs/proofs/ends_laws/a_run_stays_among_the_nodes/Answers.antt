use Rattle.sub_runs.proofs.Bounding.{comes_few}
use Rattle.sub_runs.proofs.ends_laws.a_run_stays_among_the_nodes.Goals as goal

pub returns : goal.returns
returns c = λ o nets n i x. (comes_few o nets x).within
