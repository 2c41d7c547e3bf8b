use Rattle.vl_accept.proofs.Designs.{can-unroll}
use Rattle.vl_accept.proofs.laws.a_design_without_faults_can_be_unrolled.Goals as goal

pub returns : goal.returns
returns c = can-unroll
