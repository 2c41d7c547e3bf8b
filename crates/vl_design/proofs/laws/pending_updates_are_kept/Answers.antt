use Rattle.vl_design.proofs.Counting.{exec_adds}
use Rattle.vl_design.proofs.laws.pending_updates_are_kept.Goals as goal

pub returns : goal.returns
returns c = λ scope a s. exec_adds scope a s
