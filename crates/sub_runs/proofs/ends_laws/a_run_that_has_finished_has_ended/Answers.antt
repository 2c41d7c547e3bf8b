use Rattle.sub_runs.proofs.Ending.{finished_ends}
use Rattle.sub_runs.proofs.ends_laws.a_run_that_has_finished_has_ended.Goals as goal

pub returns : goal.returns
returns c = λ o T nets n i r quiet none x f m. finished_ends o T nets r quiet none x f m
