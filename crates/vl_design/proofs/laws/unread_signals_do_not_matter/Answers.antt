use Rattle.vl_design.proofs.Unread.{value_unread}
use Rattle.vl_design.proofs.laws.unread_signals_do_not_matter.Goals as goal

pub returns : goal.returns
returns c = λ scope p s t d e h c. value_unread scope p s t d e h c
