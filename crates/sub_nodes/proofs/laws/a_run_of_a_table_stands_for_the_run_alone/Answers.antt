use Rattle.sub_nodes.proofs.Runs.{comes_at}
use Rattle.sub_nodes.proofs.laws.a_run_of_a_table_stands_for_the_run_alone.Goals as goal

pub returns : goal.returns
returns c = λ o T nets c i r x. comes_at o T nets r x
