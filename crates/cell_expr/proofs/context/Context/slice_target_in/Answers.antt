use Rattle.std.proofs.Common.{◌≡◌, ◌++◌, [], ◌∷◌, ◌∙◌, refl, ap, rules, w32}
use Rattle.std.proofs.lemmas.Int.{to_z-of_z}
use Rattle.std.proofs.lemmas.Result.{on_ok_weaker}
use Rattle.vl_design.specs.Trees.{target_of}
use Rattle.cell_emit.specs.cell_form.specs.Views.{list_of}
use Rattle.cell_emit.specs.declared.place.Place.{Place}
use Rattle.cell_emit.specs.declared.place.Place.TheVariants as place
use Rattle.cell_emit.specs.Envs.{env_of}
use Rattle.cell_expr.specs.declared.spot.Spot.{Spot}
use Rattle.cell_expr.specs.Contexts.{scope_of, body_of}
use Rattle.cell_expr.specs.Counts.{indices_count}
use Rattle.cell_expr.proofs.Adding.{spotted-slice}
use Rattle.cell_expr.proofs.context.Context.slice_target_in.Goals as goal

pub returns-clause-spotted : goal.returns-clause-spotted
returns-clause-spotted g c =
    let before = c.args.spots.now.items in
    let after = c.add_spot.new.spots.items in
    let base = c.in_ok-base.base in
    let same : c.bit_at.result ≡ place.Constant c.args.low = c.bit_at.ensures ∙ ap place.Constant (to_z-of_z w32 c.args.low (search rules)) in
    let p : Place → Spot = λ z. record { signal = base.signal; word = base.word; low = z; width = c.args.width } in
    let t = target_of c.args.base.now in
    on_ok_weaker c.add_spot.result
    (λ (are : after ≡ before ++ p c.bit_at.result ∷ []) files.
    spotted-slice (scope_of c.args.self.now files) (env_of c.args.at.now) before after (indices_count (body_of c.args.self.now) t) t base.signal base.word (list_of c.args.cells.now) (list_of c.base_in.new.cells)
    (c.in_ok-base.ensures.based files) c.args.low c.args.low c.args.width c.requires.sound.0 refl (are ∙ ap (λ (z : Place). before ++ p z ∷ []) same))
    c.add_spot.ensures

pub returns-in_err-base-clause-grows : goal.returns-in_err-base-clause-grows
returns-in_err-base-clause-grows g c = c.base_in.ensures.grows

pub returns-clause-grows : goal.returns-clause-grows
returns-clause-grows g c = c.in_ok-base.ensures.grows
