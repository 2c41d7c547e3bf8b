use Rattle.vl_flat.proofs.Worked.{stepped-row}
use Rattle.vl_flat.proofs.rows.an_instance_takes_its_override.Goals as goal

pub returns : goal.returns
returns c = stepped-row
