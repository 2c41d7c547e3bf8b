use Rattle.ten_make.proofs.Variables.{delays-variables}
use Rattle.ten_make.proofs.design_laws.a_tenants_design_delays_variables.Goals as goal

pub returns : goal.returns
returns c d order is = delays-variables d order is
