use Rattle.std.proofs.Common.{refl}
use Rattle.sub_nodes.proofs.rows.each_item_of_a_case_has_nodes.Goals as goal

pub returns : goal.returns
returns c = refl
