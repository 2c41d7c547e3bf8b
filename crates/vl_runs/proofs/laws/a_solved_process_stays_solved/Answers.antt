use Rattle.vl_runs.proofs.Settle.{stays}
use Rattle.vl_runs.proofs.laws.a_solved_process_stays_solved.Goals as goal
use Rattle.std.proofs.Common.{sym}

pub returns : goal.returns
returns g c = λ at fine run wakes drives reads n p v w laws f h solved read driven. stays laws p v w f h (λ b r. sym (read b r)) (λ b d. sym (driven b d)) solved
