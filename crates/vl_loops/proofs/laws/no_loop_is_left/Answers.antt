use Rattle.vl_loops.proofs.Bare.{bare, all_bare}
use Rattle.vl_loops.proofs.laws.no_loop_is_left.Goals as goal

pub returns-clause-statement : goal.returns-clause-statement
returns-clause-statement c = λ scope a e. bare scope a e

pub returns-clause-design : goal.returns-clause-design
returns-clause-design c = λ d. all_bare d
