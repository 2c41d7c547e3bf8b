use Rattle.vl_runs.proofs.Settle.{one_pass_solves, one_pass_keeps}
use Rattle.vl_runs.proofs.laws.one_pass_solves_all.Goals as goal

pub returns-clause-solved : goal.returns-clause-solved
returns-clause-solved g c = λ at fine run wakes drives reads n order v laws o f. one_pass_solves laws order o v f

pub returns-clause-others : goal.returns-clause-others
returns-clause-others g c = λ at fine run wakes drives reads n order v laws o f. one_pass_keeps laws order o v f
