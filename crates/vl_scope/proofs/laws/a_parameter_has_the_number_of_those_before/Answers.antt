use Rattle.vl_scope.proofs.Meanings.{parameter-number}
use Rattle.vl_scope.proofs.laws.a_parameter_has_the_number_of_those_before.Goals as goal

pub returns : goal.returns
returns c = parameter-number
