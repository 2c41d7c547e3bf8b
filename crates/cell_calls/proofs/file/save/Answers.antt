use Rattle.std.proofs.Common.{map}
use Rattle.vl_design.specs.Trees.{arg_of, flat_of}
use Rattle.vl_run.proofs.Filing.{save-some}
use Rattle.cell_emit.specs.cell_form.specs.Views.{list_of}
use Rattle.cell_emit.specs.Envs.{env_of}
use Rattle.cell_calls.proofs.Calling.{traps-no-save, traps-save}
use Rattle.cell_calls.proofs.file.save.Goals as goal

pub returns-in-None : goal.returns-in-None
returns-in-None c = traps-no-save (flat_of c.args.site.design.now) (env_of c.args.site.at.now) (list_of c.args.cells.now) (map arg_of c.args.args.now) c.silent.result c.in-None.ensures c.silent.ensures

pub returns-in_ok-copy-in-Some : goal.returns-in_ok-copy-in-Some
returns-in_ok-copy-in-Some c =
    let copy = c.in_ok-copy-in-Some in
    rw (save-some (map arg_of c.args.args.now) c.in-Some.name.now c.in-Some.ensures)
    (traps-save (flat_of c.args.site.design.now) (env_of c.args.site.at.now) (list_of c.args.cells.now) c.in-Some.name.now copy.copy c.given_nothing.result copy.ensures c.given_nothing.ensures)
