use Rattle.host_report.proofs.LinesOfNotes.{lines_read, none_read}
use Rattle.host_report.proofs.laws.lines_are_read_from_a_history.Goals as goal

pub returns-clause-often : goal.returns-clause-often
returns-clause-often c = lines_read

pub returns-clause-none : goal.returns-clause-none
returns-clause-none c = none_read
