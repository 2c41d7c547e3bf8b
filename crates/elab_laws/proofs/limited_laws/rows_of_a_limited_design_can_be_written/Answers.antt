use Rattle.elab_laws.proofs.Rows.{limited-rows}
use Rattle.elab_laws.proofs.limited_laws.rows_of_a_limited_design_can_be_written.Goals as goal

pub returns : goal.returns
returns c = limited-rows
