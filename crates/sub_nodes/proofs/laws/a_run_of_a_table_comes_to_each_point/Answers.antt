use Rattle.sub_nodes.proofs.Runs.{each_comes}
use Rattle.sub_nodes.proofs.laws.a_run_of_a_table_comes_to_each_point.Goals as goal

pub returns : goal.returns
returns c = λ o T nets c p r x. (let h = each_comes o T nets r x in (h.stage, h.comes, h.stands))
