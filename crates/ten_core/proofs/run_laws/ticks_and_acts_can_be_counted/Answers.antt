use Rattle.ten_core.proofs.Stepping.{ticks-fit, acts-fit}
use Rattle.ten_core.proofs.run_laws.ticks_and_acts_can_be_counted.Goals as goal

pub returns-clause-ticks : goal.returns-clause-ticks
returns-clause-ticks c = λ o order n i r. ticks-fit o order n i r

pub returns-clause-acts : goal.returns-clause-acts
returns-clause-acts c = λ o order n i r. acts-fit o order n i r
