use Rattle.std.proofs.Common.{[]}
use Rattle.std.proofs.lemmas.Result.{on_ok_weaker}
use Rattle.vl_design.specs.Exec.{exec}
use Rattle.vl_design.specs.Functions.{scope_of}
use Rattle.vl_design.specs.Trees.{flat_of, stm_of}
use Rattle.vl_design.specs.Width.{names_of}
use Rattle.cell_emit.specs.cell_form.specs.Views.{list_of}
use Rattle.cell_emit.specs.Envs.{env_of}
use Rattle.cell_expr.specs.Counts.{stm_count, body_cells}
use Rattle.machine_rows.proofs.Walking.{adds-done}
use Rattle.machine_rows.proofs.cells.compile.add.Goals as goal

pub returns-in-Comb : goal.returns-in-Comb
returns-in-Comb c =
    let d = flat_of c.args.design.now in
    let a = stm_of [] c.args.process.now.body in
    let all = c.args.all.now in
    on_ok_weaker c.statement.result
    (λ h. adds-done (names_of d) (stm_count (body_cells d) a) (exec (scope_of d []) a) all.at.here (env_of all.at) (env_of c.statement.new.at) (list_of all.cells) (list_of c.statement.new.cells) (h [] []))
    c.statement.ensures.does
