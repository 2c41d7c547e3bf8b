use Rattle.std.proofs.Common.{sym}
use Rattle.vl_tree.proofs.Bindings.{bound_again}
use Rattle.vl_tree.proofs.laws.binding_is_the_only_one.Goals as goal

pub returns : goal.returns
returns c e t h i j = rw (← i, ← j) (sym (bound_again t h))
