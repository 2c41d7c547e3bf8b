use Rattle.ten_make.proofs.Nodes.{nodes-cells}
use Rattle.ten_make.proofs.design_laws.nodes_of_a_tenants_design_are_compiled.Goals as goal

pub returns : goal.returns
returns c d order nodes is e = nodes-cells d order is nodes e
