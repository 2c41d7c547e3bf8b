use Rattle.vl_runs.proofs.Committed.{after_holds, before_holds}
use Rattle.vl_runs.proofs.acts_laws.combinational_processes_hold_over_the_committed_values.Goals as goal

pub returns : goal.returns
returns c = record {
  after = λ o order n p k u ord fine a h. after_holds o k u order ord fine p a h;
  before = λ o order n task q rest from committed k u ord fine b h. before_holds o k u order ord fine q rest from committed b h;
}
