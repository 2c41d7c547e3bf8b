use Rattle.sub_runs.proofs.Coming.{comes_nets}
use Rattle.sub_runs.proofs.laws.nets_hold_over_the_committed_values.Goals as goal

pub returns : goal.returns
returns c = record {
  zero = λ o order n i k ord fine w x l. (comes_nets o w k order ord fine x).zero l;
  hold = λ o order n i k ord fine w x l f. (comes_nets o w k order ord fine x).hold l f;
}
