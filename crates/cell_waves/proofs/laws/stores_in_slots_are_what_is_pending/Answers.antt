use Rattle.cell_waves.proofs.Reading.{reads-sites, reads-words, reads-idle}
use Rattle.cell_waves.proofs.laws.stores_in_slots_are_what_is_pending.Goals as goal

pub returns-clause-sites : goal.returns-clause-sites
returns-clause-sites c = reads-sites

pub returns-clause-words : goal.returns-clause-words
returns-clause-words c = reads-words

pub returns-clause-idle : goal.returns-clause-idle
returns-clause-idle c = reads-idle
