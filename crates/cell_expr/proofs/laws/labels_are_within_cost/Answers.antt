use Rattle.cell_expr.proofs.Budget.{labels-within}
use Rattle.cell_expr.proofs.laws.labels_are_within_cost.Goals as goal

pub returns : goal.returns
returns c = λ names body cells slack es bodies sound. labels-within names body cells slack bodies es sound
