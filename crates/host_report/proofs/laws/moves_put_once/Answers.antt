use Rattle.host_report.proofs.Moved.{moves_once}
use Rattle.host_report.proofs.laws.moves_put_once.Goals as goal

pub returns : goal.returns
returns c = moves_once
