use Rattle.vl_runs.proofs.Settle.{equation}
use Rattle.vl_runs.proofs.laws.a_driven_bit_is_its_equation.Goals as goal

pub returns : goal.returns
returns g c = λ at fine run wakes drives reads n p v w laws f h solved same b d. equation laws p v w f h solved same b d
