use Rattle.std.proofs.Common.{refl}
use Rattle.sub_runs.proofs.Coming.{tidy_cycled, tidy_served, comes_tidy}
use Rattle.sub_runs.proofs.laws.a_run_of_a_table_stays_tidy.Goals as goal

pub returns : goal.returns
returns c = record {
  cycle = λ d order files i k o w t. tidy_cycled d w k order o files _ i refl t;
  call = λ d files i w t. tidy_served d w files _ i refl t;
  all = λ o order n i k ord fine w x. comes_tidy o w k order ord fine x;
}
