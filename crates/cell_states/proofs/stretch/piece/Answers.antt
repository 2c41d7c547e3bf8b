use Rattle.std.proofs.Common.{[]}
use Rattle.std.proofs.lemmas.Result.{on_ok_weaker}
use Rattle.cell_states.proofs.stretch.piece.Goals as goal

pub returns-in-Whole-clause-does : goal.returns-in-Whole-clause-does
returns-in-Whole-clause-does c = rw c.in-Whole.is (on_ok_weaker c.whole.result (λ h. h []) c.whole.ensures.does)

pub returns-in-Loop-clause-does : goal.returns-in-Loop-clause-does
returns-in-Loop-clause-does c = rw c.in-Loop.is (on_ok_weaker c.whole-in-Loop.result (λ h. h c.in-Loop.field-0.now) c.whole-in-Loop.ensures.does)

pub returns-in-Set-clause-does : goal.returns-in-Set-clause-does
returns-in-Set-clause-does c = rw c.in-Set.is c.answered.ensures.does

pub returns-in-Later-clause-does : goal.returns-in-Later-clause-does
returns-in-Later-clause-does c = rw c.in-Later.is c.answered-in-Later.ensures.does
