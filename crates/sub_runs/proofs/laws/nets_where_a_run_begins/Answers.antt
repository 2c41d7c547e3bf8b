use Rattle.sub_runs.proofs.Coming.{start_zero, start_holds}
use Rattle.sub_runs.proofs.laws.nets_where_a_run_begins.Goals as goal

pub returns : goal.returns
returns c = record {
  nothing = λ o T nets. start_zero o T nets;
  snapshot = λ o T order s k ord fine. start_holds o T k order ord s fine;
}
