use Rattle.vl_design.proofs.Kept.{exec_keeps}
use Rattle.vl_design.proofs.laws.other_signals_are_kept.Goals as goal

pub returns : goal.returns
returns c = λ scope p k m a h s. exec_keeps p k m scope a h s
