use Rattle.vl_elab.proofs.Bound.{binary-bound}
use Rattle.vl_elab.proofs.laws.operators_are_bound_as_the_grammar_binds_them.Goals as goal

pub returns : goal.returns
returns c = binary-bound
