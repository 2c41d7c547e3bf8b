use Rattle.ten_form.proofs.Cycling.{cycled-stands}
use Rattle.ten_form.proofs.image_laws.a_cycle_of_states_is_one_of_nodes.Goals as goal

pub returns : goal.returns
returns c d order files slots states b i x = cycled-stands d order files slots states b i x
