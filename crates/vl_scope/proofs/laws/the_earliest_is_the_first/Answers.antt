use Rattle.vl_scope.proofs.Orders.{earliest-In}
use Rattle.vl_scope.proofs.laws.the_earliest_is_the_first.Goals as goal

pub returns : goal.returns
returns c = earliest-In
