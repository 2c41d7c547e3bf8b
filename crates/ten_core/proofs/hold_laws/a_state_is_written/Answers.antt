use Rattle.ten_core.proofs.Keeping.{state-written}
use Rattle.ten_core.proofs.hold_laws.a_state_is_written.Goals as goal

pub returns : goal.returns
returns c = λ d files s can rows set fine table. state-written d files s can rows set fine table
