use Rattle.std.proofs.Common.{◌≡◌, ◌∙◌, ap, refl}
use Rattle.vl_design.specs.Trees.{exp_of, flat_of}
use Rattle.vl_design.specs.Width.{form, names_of}
use Rattle.cell_emit.specs.cell_form.specs.Views.{list_of}
use Rattle.cell_emit.specs.Envs.{env_of}
use Rattle.cell_calls.proofs.Owning.{own-compiled}
use Rattle.cell_calls.proofs.own.own_value.Goals as goal

pub returns-clause-gives : goal.returns-clause-gives
returns-clause-gives c =
    let d = flat_of c.args.site.design.now in
    let e = exp_of c.args.e.now in
    let same : c.form_of-form.result ≡ form (names_of d) e = c.form_of-form.ensures.value ∙ ap (λ n. form n e) c.room_of.ensures.names in
    own-compiled d (env_of c.args.site.at.now) e c.form_of-form.result (list_of c.args.cells.now) (list_of c.compile.new.cells)
    (record { slot = c.in_ok-slot.slot; width = c.form_of-form.result.width; signed = c.form_of-form.result.signed }) same refl refl c.in_ok-slot.ensures.gives
