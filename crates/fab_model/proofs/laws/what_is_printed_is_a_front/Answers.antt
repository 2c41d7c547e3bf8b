use Rattle.fab_model.specs.Several.{empty, everyone_in, run}
use Rattle.fab_model.proofs.Fronts.{fronts}
use Rattle.fab_model.proofs.laws.what_is_printed_is_a_front.Goals as goal

pub returns : goal.returns
returns c = λ capacities steps loaded. fronts c.what_a_run_has_printed_is_a_front.ensures (everyone_in (run steps (empty capacities))) (c.runs_go_on.ensures capacities steps loaded)
