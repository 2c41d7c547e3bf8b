use Rattle.ten_core.proofs.Fitting.{read-fits, fit-fine, read-files}
use Rattle.ten_core.proofs.hold_laws.what_is_read_fits.Goals as goal

pub returns-clause-words : goal.returns-clause-words
returns-clause-words c = λ d files s can h. read-fits d can s.words h.words

pub returns-clause-values : goal.returns-clause-values
returns-clause-values c = λ d files s can h. fit-fine d can s.words (read-fits d can s.words h.words)

pub returns-clause-table : goal.returns-clause-table
returns-clause-table c = λ d files s h. read-files files 0 s.files h.files h.slots
