use Rattle.vl_design.proofs.Alike.{exec_unread}
use Rattle.vl_design.proofs.laws.unread_signals_do_not_matter_to_statements.Goals as goal

pub returns : goal.returns
returns c = λ scope p a h s t d. exec_unread scope p a h s t d
