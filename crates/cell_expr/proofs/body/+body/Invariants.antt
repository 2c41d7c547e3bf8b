use Rattle.std.proofs.Common.{◌+◌, ◌*◌, ◌-◌}
use Rattle.cell_expr.proofs.body.+body.Given as goal

abbrev pub decreases-body_in : goal.decreases-body_in
decreases-body_in l = 4 * l.depth + 2

abbrev pub decreases-statement_at : goal.decreases-statement_at
decreases-statement_at l = 4 * l.depth + 1

abbrev pub decreases-segment_at : goal.decreases-segment_at
decreases-segment_at l = 4 * l.depth

abbrev pub decreases-segment_at-compile_body : goal.decreases-segment_at-compile_body
decreases-segment_at-compile_body l = 4 * l.depth - 1
