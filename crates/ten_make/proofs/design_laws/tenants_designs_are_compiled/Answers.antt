use Rattle.ten_make.proofs.Nodes.{compiled}
use Rattle.ten_make.proofs.design_laws.tenants_designs_are_compiled.Goals as goal

pub returns : goal.returns
returns c d order is = compiled d order is
