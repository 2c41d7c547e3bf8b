use Rattle.vl_design.proofs.Ranging.{exec_in_range}
use Rattle.vl_design.proofs.laws.statements_keep_the_range.Goals as goal

pub returns : goal.returns
returns c = λ scope a s r. exec_in_range scope a s r
