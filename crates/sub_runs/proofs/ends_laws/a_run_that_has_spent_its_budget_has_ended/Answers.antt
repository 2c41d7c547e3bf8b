use Rattle.sub_runs.proofs.Ending.{budget_ends}
use Rattle.sub_runs.proofs.ends_laws.a_run_that_has_spent_its_budget_has_ended.Goals as goal

pub returns : goal.returns
returns c = λ o T nets n i r quiet none x f h t. budget_ends o T nets r quiet none x f h t
