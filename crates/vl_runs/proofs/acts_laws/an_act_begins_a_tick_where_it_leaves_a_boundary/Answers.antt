use Rattle.vl_runs.proofs.Passing.{act_ticks}
use Rattle.vl_runs.proofs.acts_laws.an_act_begins_a_tick_where_it_leaves_a_boundary.Goals as goal

pub returns : goal.returns
returns c = λ d files p r f a. act_ticks d files f a
