use Rattle.std.proofs.Common.{ℕ, ap, ◌∙◌}
use Rattle.std.specs.Prelude.{slice_index}
use Rattle.vl_design.specs.Costs.{saturated}
use Rattle.vl_cost.proofs.Tasking.{task-is}
use Rattle.vl_cost.proofs.tasks.task_cells.Goals as goal

pub returns : goal.returns
returns c = c.kind_cells.ensures
    ∙ ap saturated (task-is (λ (f : ℕ). slice_index c.args.bodies.now f) c.args.call.now.name c.as_slice.result.now c.args.call.now.args.items c.as_slice-2.result.now c.kind_of-kind.result c.kind_of-kind.ensures c.as_slice.ensures c.as_slice-2.ensures.value)
