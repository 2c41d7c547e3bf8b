use Rattle.fab_model.proofs.Going.{always_run}
use Rattle.fab_model.proofs.laws.runs_go_on.Goals as goal

pub returns : goal.returns
returns c = let law = c.each_act_comes_nearer.ensures in always_run (record { cycle = law.cycle; call = law.call })
