use Rattle.sub_runs.proofs.Ending.{running_counts, finished_counts}
use Rattle.sub_runs.proofs.ends_laws.a_run_counts_its_acts.Goals as goal

pub returns-clause-running : goal.returns-clause-running
returns-clause-running c = λ o T nets n i r quiet none x h. running_counts o T nets r quiet none x h

pub returns-clause-finished : goal.returns-clause-finished
returns-clause-finished c = λ o T nets n i r quiet none x f. finished_counts o T nets r quiet none x f
