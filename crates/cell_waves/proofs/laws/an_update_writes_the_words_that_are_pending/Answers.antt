use Rattle.cell_waves.proofs.UpdatingOfStores.{update-memories, update-empty, update-idle, update-others, update-lengths}
use Rattle.cell_waves.proofs.laws.an_update_writes_the_words_that_are_pending.Goals as goal

pub returns-clause-memories : goal.returns-clause-memories
returns-clause-memories c = update-memories

pub returns-clause-empty : goal.returns-clause-empty
returns-clause-empty c = update-empty

pub returns-clause-idle : goal.returns-clause-idle
returns-clause-idle c = update-idle

pub returns-clause-registers : goal.returns-clause-registers
returns-clause-registers c = update-others

pub returns-clause-lengths : goal.returns-clause-lengths
returns-clause-lengths c = update-lengths
