use Rattle.std.proofs.Common.{refl}
use Rattle.sub_nodes.proofs.rows.a_stretch_behind_a_choice_stands_behind_each_branch.Goals as goal

pub returns : goal.returns
returns c = refl
