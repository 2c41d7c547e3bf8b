use Rattle.reg_ports.proofs.Restoring.{parted-joined, joined-parted}
use Rattle.reg_ports.proofs.laws.parted_words_are_joined.Goals as goal

pub returns-clause-joined : goal.returns-clause-joined
returns-clause-joined c = parted-joined

pub returns-clause-parted : goal.returns-clause-parted
returns-clause-parted c = joined-parted
