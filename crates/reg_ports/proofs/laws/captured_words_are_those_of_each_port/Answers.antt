use Rattle.reg_ports.proofs.Restoring.{all-there, captured-joined, captured-parted, captured-fit}
use Rattle.reg_ports.proofs.laws.captured_words_are_those_of_each_port.Goals as goal

pub returns-clause-joined : goal.returns-clause-joined
returns-clause-joined c = captured-joined

pub returns-clause-parted : goal.returns-clause-parted
returns-clause-parted c = λ ports b h. captured-parted ports b (all-there ports b h.each)

pub returns-clause-fit : goal.returns-clause-fit
returns-clause-fit c = λ ports b h. captured-fit ports b h.each
