use Rattle.reg_ports.proofs.Holding.{held-variable, held-word}
use Rattle.reg_ports.proofs.laws.words_of_a_port.Goals as goal

pub returns-clause-variable : goal.returns-clause-variable
returns-clause-variable c = held-variable

pub returns-clause-memory : goal.returns-clause-memory
returns-clause-memory c = held-word
