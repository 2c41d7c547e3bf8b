use Rattle.sub_nodes.proofs.Counting.{wave_few}
use Rattle.sub_nodes.proofs.laws.the_nodes_of_a_wave_are_few.Goals as goal

pub returns : goal.returns
returns c = λ from update xs g. wave_few from update xs g
