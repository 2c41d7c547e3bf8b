use Rattle.vl_flat.proofs.Worked.{two_wide-row}
use Rattle.vl_flat.proofs.rows.faults_come_in_the_order_of_the_design.Goals as goal

pub returns : goal.returns
returns c = two_wide-row
