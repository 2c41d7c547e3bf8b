use Rattle.cell_emit.proofs.Frames.{grows-then}
use Rattle.std.proofs.Common.{◌≡◌, ◌++◌, [], ◌∷◌, refl}
use Rattle.std.proofs.lemmas.Result.{on_ok_weaker}
use Rattle.vl_design.specs.Trees.{exp_of, target_of}
use Rattle.cell_emit.specs.cell_form.specs.Views.{list_of}
use Rattle.cell_emit.specs.declared.place.Place.TheVariants as place
use Rattle.cell_emit.specs.Envs.{env_of}
use Rattle.cell_emit.proofs.Staying.{fits-stays}
use Rattle.cell_expr.specs.declared.spot.Spot.{Spot}
use Rattle.cell_expr.specs.Contexts.{names_of, scope_of, body_of}
use Rattle.cell_expr.specs.Counts.{own_count, indices_count}
use Rattle.cell_expr.proofs.Adding.{spotted-pick}
use Rattle.cell_expr.proofs.context.Context.pick_target_in.Goals as goal

pub own_in-requires-clause-fits : goal.own_in-requires-clause-fits
own_in-requires-clause-fits g c = fits-stays (names_of c.args.self.now) (list_of c.args.cells.now) (list_of c.base_in.new.cells) (env_of c.args.at.now) c.in_ok-base.ensures.grows c.requires.fits

pub returns-clause-spotted : goal.returns-clause-spotted
returns-clause-spotted g c =
    let before = c.args.spots.now.items in
    let after = c.add_spot.new.spots.items in
    let body = body_of c.args.self.now in
    let base = c.in_ok-base.base in
    let e = exp_of c.args.index.now in
    let t = target_of c.args.base.now in
    let signed = c.form_of-signed.result.signed in
    let p : Spot = record { signal = base.signal; word = base.word; low = place.By c.in_ok-index.index signed c.args.from; width = c.args.width } in
    on_ok_weaker c.add_spot.result
    (λ (are : after ≡ before ++ p ∷ []) files.
    spotted-pick (scope_of c.args.self.now files) (env_of c.args.at.now) before after (indices_count body t) t base.signal base.word (list_of c.args.cells.now) (list_of c.base_in.new.cells)
    (c.in_ok-base.ensures.based files) (own_count body e) e c.args.from c.args.width c.in_ok-index.index signed (list_of c.own_in.new.cells) c.requires.fits c.requires.sound.0
    (rw c.form_of-signed.ensures.value refl) (c.in_ok-index.ensures.gives files) are)
    c.add_spot.ensures

pub returns-in_err-base-clause-grows : goal.returns-in_err-base-clause-grows
returns-in_err-base-clause-grows g c = c.base_in.ensures.grows

pub returns-in_err-index-clause-grows : goal.returns-in_err-index-clause-grows
returns-in_err-index-clause-grows g c =
    let l0 = list_of c.args.cells.now in
    let l1 = list_of c.base_in.new.cells in
    let l2 = list_of c.own_in.new.cells in
    grows-then l0 l1 l2 c.in_ok-base.ensures.grows c.own_in.ensures.grows

pub returns-clause-grows : goal.returns-clause-grows
returns-clause-grows g c =
    let l0 = list_of c.args.cells.now in
    let l1 = list_of c.base_in.new.cells in
    let l2 = list_of c.own_in.new.cells in
    grows-then l0 l1 l2 c.in_ok-base.ensures.grows c.in_ok-index.ensures.grows
