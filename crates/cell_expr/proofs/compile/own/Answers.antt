use Rattle.std.proofs.Common.{◌≡◌, ap, ◌∙◌, subst}
use Rattle.vl_design.specs.declared.design.Form.{Form}
use Rattle.vl_design.specs.Functions.{scope_of}
use Rattle.vl_design.specs.Trees.{exp_of, flat_of}
use Rattle.vl_design.specs.Width.{Names, form, names_of}
use Rattle.cell_emit.specs.cell_form.specs.Views.{list_of}
use Rattle.cell_emit.proofs.Newest.{ok-gives}
use Rattle.cell_emit.specs.Envs.{env_of}
use Rattle.cell_expr.specs.Compiled.{Compiles}
use Rattle.cell_expr.specs.Counts.{exp_count, body_cells}
use Rattle.cell_expr.proofs.compile.own.Goals as goal

pub returns-clause-gives : goal.returns-clause-gives
returns-clause-gives c =
    let d = flat_of c.args.design.now in
    let e = exp_of c.args.e.now in
    let is : c.form_of-c.result ≡ form (names_of d) e = c.form_of-c.ensures.value ∙ ap (λ (n : Names). form n e) c.room_of.ensures.names in
    ok-gives c.compile.result _ _
    (λ r h files. subst (λ (z : Form). Compiles (names_of d) (scope_of d files) (exp_count (body_cells d) e) e z (env_of c.args.at.now) (list_of c.args.cells.now) (list_of c.compile.new.cells) r) is (h files))
    c.compile.ensures.gives
