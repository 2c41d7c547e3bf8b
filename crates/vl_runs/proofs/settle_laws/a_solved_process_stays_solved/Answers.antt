use Rattle.vl_runs.proofs.Checks.{accepted}
use Rattle.vl_runs.proofs.Ticks.{still}
use Rattle.vl_runs.proofs.settle_laws.a_solved_process_stays_solved.Goals as goal

pub returns : goal.returns
returns c = λ d files s t i k f g fs ft solved read driven. still d files (accepted d k) i s t f g fs ft read driven solved
