use Rattle.reg_ports.proofs.Outcomes.{row-widths}
use Rattle.reg_ports.proofs.Holding.{widths-length}
use Rattle.reg_ports.proofs.laws.widths_are_those_of_rows.Goals as goal

pub returns-clause-many : goal.returns-clause-many
returns-clause-many c = widths-length

pub returns-clause-rows : goal.returns-clause-rows
returns-clause-rows c = row-widths
