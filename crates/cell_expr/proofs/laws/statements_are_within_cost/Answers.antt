use Rattle.cell_expr.proofs.Budget.{stm-within}
use Rattle.cell_expr.proofs.laws.statements_are_within_cost.Goals as goal

pub returns : goal.returns
returns c = λ scope body cells slack a s bodies sound. stm-within scope.names body cells slack bodies scope a s sound
