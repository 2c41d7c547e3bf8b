use Rattle.cell_waves.proofs.Leaving.{idle-yet, holds-more}
use Rattle.cell_waves.proofs.laws.a_segment_keeps_its_updates.Goals as goal

pub returns-clause-holds : goal.returns-clause-holds
returns-clause-holds c = λ d b l kept behind sites sets earlier later h k. holds-more d b l kept behind sites sets later h earlier k

pub returns-clause-idle : goal.returns-clause-idle
returns-clause-idle c = idle-yet
