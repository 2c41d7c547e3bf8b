use Rattle.host_form.proofs.Plans.{plan-stops, plan-saves}
use Rattle.host_form.proofs.laws.unplanned_moves_change_no_stop_and_no_save.Goals as goal

pub returns : goal.returns
returns c = record { stops = plan-stops; saves = plan-saves }
