use Rattle.sub_runs.proofs.Bounding.{acts_few}
use Rattle.sub_runs.proofs.ends_laws.the_acts_of_a_tick_are_few.Goals as goal

pub returns : goal.returns
returns c = λ o nets n i x. acts_few o nets x
