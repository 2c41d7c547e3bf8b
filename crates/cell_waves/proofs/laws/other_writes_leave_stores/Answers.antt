use Rattle.cell_waves.proofs.Leaving.{idle-left, holds-left}
use Rattle.cell_waves.proofs.laws.other_writes_leave_stores.Goals as goal

pub returns-clause-holds : goal.returns-clause-holds
returns-clause-holds c = λ d b value sets stores later h k holds. holds-left value sets b d stores later h k holds

pub returns-clause-idle : goal.returns-clause-idle
returns-clause-idle c = λ b value sets stores h k idle. idle-left value sets b stores h k idle
