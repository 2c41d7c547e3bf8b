use Rattle.vl_runs.proofs.Onward.{goes_on, far}
use Rattle.vl_runs.proofs.acts_laws.the_run_goes_on_act_by_act.Goals as goal

pub returns : goal.returns
returns c = record {
  on = λ o order n p k u ord fine a f. goes_on o k u order ord fine p a f;
  far = λ o order n k u ord fine. let x = far o k u order ord fine n in (x.count, x.point, x.within, x.after, x.all);
}
