use Rattle.cell_expr.proofs.Budget.{condition-within}
use Rattle.cell_expr.proofs.laws.conditions_are_within_cost.Goals as goal

pub returns : goal.returns
returns c = λ names body cells slack e bodies sound. condition-within names body cells slack bodies e sound
