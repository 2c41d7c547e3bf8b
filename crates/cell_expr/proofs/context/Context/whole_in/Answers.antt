use Rattle.std.proofs.Common.{◌≡◌, ◌++◌, [], ◌∷◌, ap}
use Rattle.std.specs.Prelude.{pos}
use Rattle.std.proofs.lemmas.Result.{on_ok_weaker}
use Rattle.vl_design.specs.declared.design.Form.{Form}
use Rattle.vl_design.specs.Trees.{target_of}
use Rattle.cell_emit.specs.cell_form.specs.Views.{list_of}
use Rattle.cell_emit.specs.declared.place.Place.TheVariants as place
use Rattle.cell_emit.specs.Envs.{env_of}
use Rattle.cell_expr.specs.declared.spot.Spot.{Spot}
use Rattle.cell_expr.specs.Contexts.{names_of, scope_of, body_of}
use Rattle.cell_expr.specs.Counts.{indices_count}
use Rattle.cell_expr.proofs.Adding.{of-named, spotted-whole}
use Rattle.cell_expr.proofs.context.Context.whole_in.Goals as goal

pub signal_form-width-requires : goal.signal_form-width-requires
signal_form-width-requires g c =
    let base = c.in_ok-base.base in
    of-named (names_of c.args.self.now) c.args.at.now.first (list_of c.base_in.new.cells) base.signal base.word (c.in_ok-base.ensures.based []).is_of

pub returns-clause-spotted : goal.returns-clause-spotted
returns-clause-spotted g c =
    let before = c.args.spots.now.items in
    let after = c.add_spot.new.spots.items in
    let base = c.in_ok-base.base in
    let w = c.signal_form-width.result.width in
    let p : Spot = record { signal = base.signal; word = base.word; low = place.Constant (pos 0); width = w } in
    let t = target_of c.args.target.now in
    on_ok_weaker c.add_spot.result
    (λ (are : after ≡ before ++ p ∷ []) files.
    spotted-whole (scope_of c.args.self.now files) (env_of c.args.at.now) before after (indices_count (body_of c.args.self.now) t) t base.signal base.word (list_of c.args.cells.now) (list_of c.base_in.new.cells)
    (c.in_ok-base.ensures.based files) w (ap (λ (f : Form). f.width) c.signal_form-width.ensures.value) are)
    c.add_spot.ensures

pub returns-in_err-base-clause-grows : goal.returns-in_err-base-clause-grows
returns-in_err-base-clause-grows g c = c.base_in.ensures.grows

pub returns-clause-grows : goal.returns-clause-grows
returns-clause-grows g c = c.in_ok-base.ensures.grows
