use Rattle.vl_design.proofs.Resting.{exec_over}
use Rattle.vl_design.proofs.laws.nothing_is_done_once_finished.Goals as goal

pub returns : goal.returns
returns c = λ scope a s h. exec_over scope a s h
