use Rattle.vl_runs.proofs.Logged.{after_is_logged, before_is_logged}
use Rattle.vl_runs.proofs.Followed.{log_after, log_before}
use Rattle.vl_runs.proofs.acts_laws.the_run_act_by_act_is_what_the_log_says.Goals as goal

pub returns : goal.returns
returns c = record {
  after = λ o n p u h a. after_is_logged o u h n p a;
  before = λ o n task p u h b. before_is_logged o u h b;
  after_back = λ o n s u h l. log_after o u h l;
  before_back = λ o n task s u h l. log_before o u h l;
}
