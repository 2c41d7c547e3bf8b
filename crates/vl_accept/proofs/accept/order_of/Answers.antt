use Rattle.std.proofs.Common.{refl, subst}
use Rattle.cell_level.specs.Nets.{is_ordered}
use Rattle.vl_accept.proofs.accept.order_of.Goals as goal

pub returns-in-Ordered : goal.returns-in-Ordered
returns-in-Ordered c = (c.in_ok-order.ensures.exact.0 (rw c.in-Ordered.is refl), rw c.in-Ordered.is at c.in_ok-order.ensures.level)
