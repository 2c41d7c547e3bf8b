use Rattle.host_outcomes.proofs.Giving.{are-orders}
use Rattle.host_outcomes.proofs.laws.given_orders_may_be_given.Goals as goal

pub returns : goal.returns
returns c = λ labels starts fabrics refused free count all rooms. are-orders labels starts fabrics refused count all rooms free
