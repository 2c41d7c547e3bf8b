use Rattle.std.proofs.Common.{sym, ◌∙◌}
use Rattle.reg_ports.proofs.Restoring.{all-there, restored-held, restored-captured}
use Rattle.reg_ports.proofs.Beside.{restored-copies}
use Rattle.reg_ports.proofs.Holding.{widths-length}
use Rattle.reg_ports.proofs.laws.restored_ports_hold_the_words.Goals as goal

pub returns-clause-held : goal.returns-clause-held
returns-clause-held c = λ ports b ws h many. restored-held ports ws b (all-there ports b h.each) h.apart (many ∙ sym (widths-length ports))

pub returns-clause-captured : goal.returns-clause-captured
returns-clause-captured c = λ ports b ws h many. restored-captured ports ws b (all-there ports b h.each) h.apart (many ∙ sym (widths-length ports))

pub returns-clause-copies : goal.returns-clause-copies
returns-clause-copies c = λ ports b ws h many. restored-copies ports ws b (all-there ports b h.each) h.apart (many ∙ sym (widths-length ports))
