use Rattle.vl_base.proofs.Bounds.{unary-below}
use Rattle.vl_base.proofs.laws.unary_values_fit.Goals as goal

pub returns : goal.returns
returns c = unary-below c.args.op c.args.a.width c.args.a.value
