use Rattle.reg_ports.proofs.Beside.{written-held, written-elsewhere, written-copies}
use Rattle.reg_ports.proofs.laws.a_written_word_is_held.Goals as goal

pub returns-clause-held : goal.returns-clause-held
returns-clause-held c = written-held

pub returns-clause-elsewhere : goal.returns-clause-elsewhere
returns-clause-elsewhere c = written-elsewhere

pub returns-clause-copies : goal.returns-clause-copies
returns-clause-copies c = written-copies
