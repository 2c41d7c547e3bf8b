use Rattle.cell_emit.proofs.Frames.{grows-then}
use Rattle.std.proofs.Common.{◌+◌, ◌∙◌, [], map, false}
use Rattle.std.proofs.lemmas.Result.{on_ok_weaker}
use Rattle.vl_design.specs.Targets.{updates_at}
use Rattle.vl_design.specs.Trees.{exp_of, target_of}
use Rattle.cell_emit.specs.cell_form.specs.Views.{list_of}
use Rattle.cell_emit.specs.Slots.{held}
use Rattle.cell_emit.specs.Envs.{env_of}
use Rattle.cell_emit.specs.Paths.{Updates}
use Rattle.cell_emit.proofs.Staying.{fits-stays}
use Rattle.cell_expr.specs.Contexts.{names_of, scope_of, body_of}
use Rattle.cell_expr.specs.Counts.{exp_count, indices_count}
use Rattle.cell_expr.specs.Spots.{cells_of, spot_in}
use Rattle.cell_expr.proofs.Nets.{plain-stored}
use Rattle.cell_expr.proofs.Setting.{set-does}
use Rattle.cell_expr.proofs.context.Context.set_in.Goals as goal

pub assign_all-requires-clause-fits : goal.assign_all-requires-clause-fits
assign_all-requires-clause-fits g c = fits-stays (names_of c.args.self.now) (list_of c.args.cells.now) (list_of c.source_in.new.cells) (env_of c.args.at.now) c.in_ok-value.ensures.grows c.requires.fits

pub assign_all-requires-clause-spots : goal.assign_all-requires-clause-spots
assign_all-requires-clause-spots g c = rw c.deref.ensures.value (c.in_ok-value.ensures.assigned []).sound

pub assign_all-requires-clause-whole : goal.assign_all-requires-clause-whole
assign_all-requires-clause-whole g c = rw c.deref.ensures.value ((c.in_ok-value.ensures.assigned []).words ∙ plain-stored (target_of c.args.target.now) c.requires.plain)

pub assign_all-requires-clause-value : goal.assign_all-requires-clause-value
assign_all-requires-clause-value g c = (c.in_ok-value.ensures.assigned []).there

pub assign_all-requires-clause-within : goal.assign_all-requires-clause-within
assign_all-requires-clause-within g c = rw c.deref.ensures.value (c.in_ok-value.ensures.assigned []).within

pub assign_all-requires-clause-narrow : goal.assign_all-requires-clause-narrow
assign_all-requires-clause-narrow g c = (c.in_ok-value.ensures.assigned []).narrow

pub returns-clause-does : goal.returns-clause-does
returns-clause-does g c =
    let ctx = c.args.self.now in
    let body = body_of ctx in
    let target = target_of c.args.target.now in
    let e = exp_of c.args.source.now in
    let at = env_of c.args.at.now in
    let at' = env_of c.assign_all.new.at in
    let l0 = list_of c.args.cells.now in
    let l1 = list_of c.source_in.new.cells in
    let l2 = list_of c.assign_all.new.cells in
    let slot = c.in_ok-value.value in
    let spots = c.source_in.new.spots.items in
    on_ok_weaker c.assign_all.result
    (λ (u : Updates (names_of ctx) (cells_of false spots) (λ b. updates_at (map (spot_in (names_of ctx).rows b l1) spots) (held b l1 slot)) c.args.off at at' l1 l2) files.
    set-does (scope_of ctx files) target e (exp_count body e + indices_count body target) slot spots at l0 l1 l2 c.requires.fits (c.in_ok-value.ensures.assigned files) c.args.off at' c.requires.off.there u)
    (rw c.deref.ensures.value at c.assign_all.ensures.updates)

pub returns-in_err-value-clause-grows : goal.returns-in_err-value-clause-grows
returns-in_err-value-clause-grows g c = c.source_in.ensures.grows

pub returns-clause-grows : goal.returns-clause-grows
returns-clause-grows g c =
    let l0 = list_of c.args.cells.now in
    let l1 = list_of c.source_in.new.cells in
    let l2 = list_of c.assign_all.new.cells in
    grows-then l0 l1 l2 c.in_ok-value.ensures.grows c.assign_all.ensures.grows
