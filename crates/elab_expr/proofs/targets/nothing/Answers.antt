use Rattle.std.proofs.Common.{ap}
use Rattle.vl_design.specs.Placed as p
use Rattle.elab_expr.proofs.Sides.{row-nothing}
use Rattle.elab_expr.proofs.targets.nothing.Goals as goal

pub returns : goal.returns
returns c = ap (p.Several c.args.at) (row-nothing c.new.result c.new.ensures.items)
