use Rattle.cell_waves.proofs.Leaving.{zeros-idle, zeros-hold}
use Rattle.cell_waves.proofs.laws.stores_of_zeros_hold_nothing.Goals as goal

pub returns-clause-holds : goal.returns-clause-holds
returns-clause-holds c = zeros-hold

pub returns-clause-idle : goal.returns-clause-idle
returns-clause-idle c = zeros-idle
