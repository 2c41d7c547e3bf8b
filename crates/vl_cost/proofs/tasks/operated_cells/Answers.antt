use Rattle.std.proofs.Common.{ℕ, ap, sym, ◌∙◌}
use Rattle.std.specs.Prelude.{slice_index}
use Rattle.vl_design.specs.Costs.{saturated}
use Rattle.vl_cost.proofs.Tasking.{not-sys}
use Rattle.vl_cost.proofs.tasks.operated_cells.Goals as goal

pub returns-in-Sys : goal.returns-in-Sys
returns-in-Sys c = c.task_cells.ensures
    ∙ sym (ap saturated (not-sys (λ (f : ℕ). slice_index c.args.bodies.now f) c.args.a.now.place c.args.op c.args.a.now c.in-Sys.call c.in-LogNot.is c.in-Sys.is))
