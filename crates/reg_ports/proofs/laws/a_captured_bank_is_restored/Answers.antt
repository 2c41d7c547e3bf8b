use Rattle.reg_ports.proofs.Beside.{capture-held, capture-restored}
use Rattle.reg_ports.proofs.laws.a_captured_bank_is_restored.Goals as goal

pub returns-clause-ports : goal.returns-clause-ports
returns-clause-ports c = capture-held

pub returns-clause-whole : goal.returns-clause-whole
returns-clause-whole c = capture-restored
