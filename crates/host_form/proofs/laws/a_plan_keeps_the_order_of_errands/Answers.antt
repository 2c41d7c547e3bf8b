use Rattle.host_form.proofs.Plans.{plan-ascends, plan-all, plan-none}
use Rattle.host_form.proofs.laws.a_plan_keeps_the_order_of_errands.Goals as goal

pub returns : goal.returns
returns c = record { order = plan-ascends; all = plan-all; none = plan-none }
