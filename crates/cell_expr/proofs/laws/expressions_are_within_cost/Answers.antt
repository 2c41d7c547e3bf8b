use Rattle.cell_expr.proofs.Budget.{own-within, exp-within}
use Rattle.cell_expr.proofs.laws.expressions_are_within_cost.Goals as goal

pub returns-clause-own : goal.returns-clause-own
returns-clause-own c = λ names body cells slack e bodies sound. own-within names body cells slack bodies e sound

pub returns-clause-any : goal.returns-clause-any
returns-clause-any c = λ names body cells slack e bodies sound. exp-within names body cells slack bodies e sound
