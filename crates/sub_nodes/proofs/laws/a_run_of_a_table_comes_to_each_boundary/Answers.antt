use Rattle.sub_nodes.proofs.Boundaries.{each_boundary}
use Rattle.sub_nodes.proofs.laws.a_run_of_a_table_comes_to_each_boundary.Goals as goal

pub returns : goal.returns
returns c = λ o T nets k q r h b. (let z = each_boundary o T nets k q r h b in (z.stage, z.comes, z.same, z.idle))
