use Rattle.host_report.proofs.Visits.{visits_read}
use Rattle.host_report.proofs.laws.stays_are_read_from_a_history.Goals as goal

pub returns : goal.returns
returns c = visits_read
