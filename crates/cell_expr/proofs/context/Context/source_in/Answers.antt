use Rattle.cell_emit.proofs.Frames.{grows-then}
use Rattle.std.proofs.Common.{subst}
use Rattle.vl_design.specs.declared.design.Form.{Form}
use Rattle.vl_design.specs.Targets.{target_width}
use Rattle.vl_design.specs.Trees.{exp_of, target_of}
use Rattle.vl_design.specs.Width.{form}
use Rattle.vl_eval.proofs.Widths.{form-width}
use Rattle.cell_emit.specs.cell_form.specs.Views.{list_of}
use Rattle.cell_emit.specs.Envs.{env_of}
use Rattle.cell_emit.proofs.Staying.{fits-stays}
use Rattle.cell_expr.specs.Contexts.{names_of, scope_of, body_of}
use Rattle.cell_expr.specs.Counts.{exp_count, indices_count, parts_count, in_count}
use Rattle.cell_expr.specs.Compiled.{Compiles}
use Rattle.cell_emit.specs.vl_sites.specs.Stored.{target_stored}
use Rattle.cell_expr.proofs.Adding.{spotted-first, assigned-narrow}
use Rattle.cell_expr.proofs.Setting.{are-assigned}
use Rattle.cell_expr.proofs.Spotting.{target-width}
use Rattle.cell_expr.proofs.context.Context.source_in.Goals as goal
use Rattle.cell_expr.proofs.Counting.{in-most}
use Rattle.cell_expr.proofs.Holding.{holds-wider}
use Rattle.vl_design.specs.Value.{value}

pub compile_in-requires-clause-narrow : goal.compile_in-requires-clause-narrow
compile_in-requires-clause-narrow g c =
    let names = names_of c.args.self.now in
    let is = rw (c.target_width-width.ensures, c.form_of.ensures.value) at c.assigned-context.ensures in
    rw is (assigned-narrow (target_width names (target_of c.args.target.now)) (form names (exp_of c.args.source.now)) (target-width names (target_of c.args.target.now) c.requires.target).narrow (form-width names (exp_of c.args.source.now) c.requires.source).narrow)

pub spots_in-requires-clause-fits : goal.spots_in-requires-clause-fits
spots_in-requires-clause-fits g c = fits-stays (names_of c.args.self.now) (list_of c.args.cells.now) (list_of c.compile_in.new.cells) (env_of c.args.at.now) c.in_ok-value.ensures.grows c.requires.fits

pub returns-clause-assigned : goal.returns-clause-assigned
returns-clause-assigned g c = λ files.
    let ctx = c.args.self.now in
    let names = names_of ctx in
    let body = body_of ctx in
    let target = target_of c.args.target.now in
    let e = exp_of c.args.source.now in
    let is = rw (c.target_width-width.ensures, c.form_of.ensures.value) at c.assigned-context.ensures in
    let at = env_of c.args.at.now in
    let l0 = list_of c.args.cells.now in
    let l1 = list_of c.compile_in.new.cells in
    let l2 = list_of c.spots_in.new.cells in
    let slot = c.in_ok-value.value in
    let n = exp_count body e in
    let m = indices_count body target in
    let scope = scope_of ctx files in
    let wider = holds-wider names at (in_count names body c.assigned-context.result.width e) n l0 l1 slot c.assigned-context.result.width (λ x. value scope x e c.assigned-context.result) (in-most names body e c.assigned-context.result.width) (c.in_ok-value.ensures.gives files) in
    let value-is = subst (λ (z : Form). Compiles names scope n e z at l0 l1 slot) is wider in
    let spotted = spotted-first names m at l1 l2 c.args.spots.now.items c.spots_in.new.spots.items (target_width names target) (parts_count target) (target_stored target) _ c.requires.none (c.in_ok-spots_in.ensures.spotted files) in
    are-assigned scope target e n m slot c.spots_in.new.spots.items at l0 l1 l2 c.requires.target c.requires.source c.requires.fits value-is spotted

pub returns-in_err-value-clause-grows : goal.returns-in_err-value-clause-grows
returns-in_err-value-clause-grows g c = c.compile_in.ensures.grows

pub returns-in_err-spots_in-clause-grows : goal.returns-in_err-spots_in-clause-grows
returns-in_err-spots_in-clause-grows g c =
    let l0 = list_of c.args.cells.now in
    let l1 = list_of c.compile_in.new.cells in
    let l2 = list_of c.spots_in.new.cells in
    grows-then l0 l1 l2 c.in_ok-value.ensures.grows c.spots_in.ensures.grows

pub returns-clause-grows : goal.returns-clause-grows
returns-clause-grows g c =
    let l0 = list_of c.args.cells.now in
    let l1 = list_of c.compile_in.new.cells in
    let l2 = list_of c.spots_in.new.cells in
    grows-then l0 l1 l2 c.in_ok-value.ensures.grows c.in_ok-spots_in.ensures.grows
