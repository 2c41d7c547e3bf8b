use Rattle.host_outcomes.proofs.Doing.{did-as, same-orders}
use Rattle.host_outcomes.proofs.laws.answers_do_as_orders.Goals as goal

pub returns : goal.returns
returns c = λ fabrics refused costs free theirs h. (did-as fabrics refused costs free theirs h, same-orders fabrics refused costs free theirs h)
