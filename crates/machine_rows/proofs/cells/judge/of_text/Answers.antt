use Rattle.std.proofs.Common.{sym, subst}
use Rattle.std.specs.Prelude.{All}
use Rattle.vl_design.specs.Placed.{Design}
use Rattle.vl_design.specs.Plainly.{flat}
use Rattle.vl_design.specs.Width.{names_of}
use Rattle.vl_accept.proofs.Fitting.{stays}
use Rattle.vl_accept.specs.vl_runs.specs.Checked.{IsChecked}
use Rattle.cell_expr.specs.Bodies.{IsCellFun}
use Rattle.machine_rows.proofs.cells.judge.of_text.Goals as goal

-- the laws, at the text's tree and its flat design
pub of_accepted-requires-clause-sound : goal.of_accepted-requires-clause-sound
of_accepted-requires-clause-sound c =
    let a = c.requires.1 in
    let fit = c.an_elaborated_design_is_fit_to_be_judged.ensures a.of.tree a.flat a.of.elaborated in
    stays a.flat c.args.accepted.now.design fit a.stands.accepted.uses a.stands.design

pub of_accepted-requires-clause-checked : goal.of_accepted-requires-clause-checked
of_accepted-requires-clause-checked c =
    let a = c.requires.1 in
    let fit = c.an_elaborated_design_is_fit_to_be_judged.ensures a.of.tree a.flat a.of.elaborated in
    let F : Design → Type 0 = λ x. IsChecked (flat x) in
    subst F (sym a.stands.design) (c.an_accepted_design_is_checked.ensures a.flat fit a.stands.accepted)

pub of_accepted-requires-clause-functions : goal.of_accepted-requires-clause-functions
of_accepted-requires-clause-functions c =
    let a = c.requires.1 in
    let fit = c.an_elaborated_design_is_fit_to_be_judged.ensures a.of.tree a.flat a.of.elaborated in
    let own = c.functions_of_an_elaborated_design_keep_to_their_own.ensures a.of.tree a.flat a.of.elaborated in
    let F : Design → Type 0 = λ x. All (IsCellFun (names_of (flat x))) (flat x).funs in
    subst F (sym a.stands.design) (c.functions_of_accepted_designs_can_be_compiled_to_cells.ensures a.flat fit own a.stands.accepted)
