use Rattle.vl_scope.proofs.Meanings.{kind_in-none}
use Rattle.vl_scope.proofs.laws.what_is_not_declared_means_nothing.Goals as goal

pub returns : goal.returns
returns c = kind_in-none
