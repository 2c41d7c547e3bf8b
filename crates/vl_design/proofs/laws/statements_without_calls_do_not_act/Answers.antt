use Rattle.vl_design.proofs.Resting.{exec_rests}
use Rattle.vl_design.proofs.laws.statements_without_calls_do_not_act.Goals as goal

pub returns : goal.returns
returns c = record { count = λ scope a s h. (exec_rests scope a h s).count; finished = λ scope a s h. (exec_rests scope a h s).finished }
