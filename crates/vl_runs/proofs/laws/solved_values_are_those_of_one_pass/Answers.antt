use Rattle.vl_runs.proofs.Settle.{one_pass}
use Rattle.vl_runs.proofs.laws.solved_values_are_those_of_one_pass.Goals as goal

pub returns : goal.returns
returns g c = λ at fine run wakes drives reads n order v w laws o f h solved same. one_pass laws order o v w f h solved same
