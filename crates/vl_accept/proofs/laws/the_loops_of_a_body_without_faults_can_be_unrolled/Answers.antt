use Rattle.vl_accept.proofs.Looped.{body-looped}
use Rattle.vl_accept.proofs.laws.the_loops_of_a_body_without_faults_can_be_unrolled.Goals as goal

pub returns : goal.returns
returns c = body-looped
