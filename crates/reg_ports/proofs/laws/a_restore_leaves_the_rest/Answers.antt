use Rattle.std.proofs.Common.{sym, ◌∙◌}
use Rattle.reg_ports.proofs.Restoring.{all-there}
use Rattle.reg_ports.proofs.Beside.{restored-elsewhere}
use Rattle.reg_ports.proofs.Holding.{widths-length}
use Rattle.reg_ports.proofs.laws.a_restore_leaves_the_rest.Goals as goal

pub returns : goal.returns
returns c = λ ports b ws h many. restored-elsewhere ports ws b (all-there ports b h.each) (many ∙ sym (widths-length ports))
