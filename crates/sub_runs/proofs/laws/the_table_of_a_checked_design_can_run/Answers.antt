use Rattle.sub_runs.proofs.Passes.{can_run}
use Rattle.sub_runs.proofs.laws.the_table_of_a_checked_design_can_run.Goals as goal

pub returns : goal.returns
returns c = λ o order k u ord fine. can_run o k u order ord fine
