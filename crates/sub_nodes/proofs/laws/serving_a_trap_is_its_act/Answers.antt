use Rattle.sub_nodes.proofs.Cycles.{serve_steps}
use Rattle.sub_nodes.proofs.laws.serving_a_trap_is_its_act.Goals as goal

pub returns : goal.returns
returns c = λ o T c task p i b s. serve_steps o T i b s
