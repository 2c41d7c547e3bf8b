use Rattle.vl_runs.proofs.Orders.{ordered}
use Rattle.vl_accept.proofs.settled_laws.an_order_of_levels_is_an_order.Goals as goal

pub returns : goal.returns
returns c = λ d order o. ordered d order o.once o.levelled
