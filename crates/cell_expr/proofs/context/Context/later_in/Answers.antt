use Rattle.cell_emit.proofs.Frames.{grows-then}
use Rattle.std.proofs.Common.{◌≡◌, ◌+◌, ◌++◌, ◌∙◌, [], map, ap, true}
use Rattle.std.proofs.lemmas.Result.{on_ok_weaker}
use Rattle.vl_design.specs.Targets.{updates_at}
use Rattle.vl_design.specs.Trees.{exp_of, target_of}
use Rattle.cell_emit.specs.cell_form.specs.Views.{list_of}
use Rattle.cell_emit.specs.Slots.{held}
use Rattle.cell_emit.specs.Envs.{env_of}
use Rattle.cell_emit.specs.Delays.{Delays}
use Rattle.cell_emit.specs.Pendings.{slots_of, memories_of}
use Rattle.cell_emit.proofs.Keeping.{pending-stays}
use Rattle.cell_emit.proofs.Staying.{fits-stays}
use Rattle.cell_expr.specs.Contexts.{names_of, scope_of, body_of}
use Rattle.cell_expr.specs.Counts.{exp_count, indices_count}
use Rattle.cell_expr.specs.Spots.{cells_of, spot_in, stored_by}
use Rattle.cell_expr.proofs.Setting.{later-does, later-leaves}
use Rattle.cell_expr.proofs.context.Context.later_in.Goals as goal

pub delay_all-requires-clause-fits : goal.delay_all-requires-clause-fits
delay_all-requires-clause-fits g c = fits-stays (names_of c.args.self.now) (list_of c.args.cells.now) (list_of c.source_in.new.cells) (env_of c.args.at.now) c.in_ok-value.ensures.grows c.requires.fits

pub delay_all-requires-clause-spots : goal.delay_all-requires-clause-spots
delay_all-requires-clause-spots g c = rw c.deref.ensures.value (c.in_ok-value.ensures.assigned []).sound

pub delay_all-requires-clause-value : goal.delay_all-requires-clause-value
delay_all-requires-clause-value g c = (c.in_ok-value.ensures.assigned []).there

pub delay_all-requires-clause-within : goal.delay_all-requires-clause-within
delay_all-requires-clause-within g c = rw c.deref.ensures.value (c.in_ok-value.ensures.assigned []).within

pub delay_all-requires-clause-narrow : goal.delay_all-requires-clause-narrow
delay_all-requires-clause-narrow g c = (c.in_ok-value.ensures.assigned []).narrow

pub delay_all-requires-clause-pending : goal.delay_all-requires-clause-pending
delay_all-requires-clause-pending g c = pending-stays (names_of c.args.self.now) (list_of c.args.cells.now) (list_of c.source_in.new.cells) (slots_of c.args.pending.now) c.in_ok-value.ensures.grows c.requires.pending

pub returns-clause-does : goal.returns-clause-does
returns-clause-does g c =
    let ctx = c.args.self.now in
    let body = body_of ctx in
    let target = target_of c.args.target.now in
    let e = exp_of c.args.source.now in
    let at = env_of c.args.at.now in
    let p = slots_of c.args.pending.now in
    let p' = slots_of c.delay_all.new.pending in
    let l0 = list_of c.args.cells.now in
    let l1 = list_of c.source_in.new.cells in
    let l2 = list_of c.delay_all.new.cells in
    let slot = c.in_ok-value.value in
    let spots = c.source_in.new.spots.items in
    on_ok_weaker c.delay_all.result
    (λ (u : Delays (names_of ctx) (cells_of true spots) (λ b. updates_at (map (spot_in (names_of ctx).rows b l1) spots) (held b l1 slot)) c.args.off p p' l1 l2) files.
    later-does (scope_of ctx files) target e (exp_count body e + indices_count body target) slot spots at l0 l1 l2 c.requires.fits (c.in_ok-value.ensures.assigned files) c.args.off p p' u)
    (rw c.deref.ensures.value at c.delay_all.ensures.delays)

pub returns-clause-leaves : goal.returns-clause-leaves
returns-clause-leaves g c =
    let ctx = c.args.self.now in
    let body = body_of ctx in
    let target = target_of c.args.target.now in
    let e = exp_of c.args.source.now in
    let at = env_of c.args.at.now in
    let p = slots_of c.args.pending.now in
    let p' = slots_of c.delay_all.new.pending in
    let l0 = list_of c.args.cells.now in
    let l1 = list_of c.source_in.new.cells in
    let l2 = list_of c.delay_all.new.cells in
    let slot = c.in_ok-value.value in
    let spots = c.source_in.new.spots.items in
    on_ok_weaker c.delay_all.result
    (λ (u : Delays (names_of ctx) (cells_of true spots) (λ b. updates_at (map (spot_in (names_of ctx).rows b l1) spots) (held b l1 slot)) c.args.off p p' l1 l2) files.
    later-leaves (scope_of ctx files) target e (exp_count body e + indices_count body target) slot spots at l0 l1 l2 c.requires.fits (c.in_ok-value.ensures.assigned files) c.args.off p p' c.requires.pending c.requires.off.there u)
    (rw c.deref.ensures.value at c.delay_all.ensures.delays)

pub returns-clause-sites : goal.returns-clause-sites
returns-clause-sites g c =
    let ms = memories_of c.args.pending.now.sites.items in
    let ns = memories_of c.delay_all.new.pending.sites.items in
    on_ok_weaker c.delay_all.result
    (λ (h : ns ≡ ms ++ stored_by c.source_in.new.spots.items). h ∙ ap (λ xs. ms ++ xs) (c.in_ok-value.ensures.assigned []).words)
    (rw c.deref.ensures.value at c.delay_all.ensures.sites)

pub returns-in_err-value-clause-grows : goal.returns-in_err-value-clause-grows
returns-in_err-value-clause-grows g c = c.source_in.ensures.grows

pub returns-clause-grows : goal.returns-clause-grows
returns-clause-grows g c =
    let l0 = list_of c.args.cells.now in
    let l1 = list_of c.source_in.new.cells in
    let l2 = list_of c.delay_all.new.cells in
    grows-then l0 l1 l2 c.in_ok-value.ensures.grows c.delay_all.ensures.grows
