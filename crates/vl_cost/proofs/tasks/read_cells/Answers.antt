use Rattle.std.proofs.Common.{ℕ, ◌∙◌, sym}
use Rattle.std.specs.Prelude.{slice_index}
use Rattle.vl_cost.proofs.Tasking.{read-list}
use Rattle.vl_cost.proofs.tasks.read_cells.Goals as goal

pub returns-then-is_value : goal.returns-then-is_value
returns-then-is_value c = read-list (λ (f : ℕ). slice_index c.args.bodies.now f) c.value_cells.result c.plus.result c.args.given.now c.variable-item.result c.file-item.result c.in-len2-up.len_at_least c.variable-item.is c.file-item.is
    (sym c.is_signal.ensures ∙ c.if-is_signal.true) (sym c.is_value.ensures ∙ c.if-is_value.true) c.value_cells.ensures.file c.plus.ensures
