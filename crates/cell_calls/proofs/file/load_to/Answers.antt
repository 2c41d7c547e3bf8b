use Rattle.std.proofs.Common.{◌≡◌, ◌∙◌, ap, refl, subst, rules, w32, to_z, of_z}
use Rattle.std.proofs.lemmas.Int.{to_z-of_z}
use Rattle.std.specs.Prelude.{Some, slice_get}
use Rattle.vl_design.specs.declared.design.Form.{Form}
use Rattle.vl_design.specs.Trees.{row_of, flat_of}
use Rattle.vl_design.specs.Width.{Names, names_of, signal_form}
use Rattle.cell_emit.specs.cell_form.specs.Views.{list_of}
use Rattle.cell_emit.specs.Envs.{env_of}
use Rattle.cell_calls.proofs.Calling.{traps-load, memory-words, is-memory}
use Rattle.cell_calls.proofs.file.load_to.Goals as goal

pub returns : goal.returns
returns c =
    let d = flat_of c.args.site.design.now in
    let names = c.room_of-room.ensures.names in
    let x = c.signal_at-signal.result.now in
    let there : slice_get d.rows c.args.memory ≡ Some (row_of x) = subst (λ (n : Names). slice_get n.rows c.args.memory ≡ Some (row_of x)) names c.signal_at-signal.ensures in
    let form = c.signal_form-form.ensures.value ∙ ap (λ (n : Names). signal_form n.rows c.args.memory) names in
    let first : to_z w32 (of_z w32 x.first) ≡ x.first = to_z-of_z w32 x.first (search rules) in
    let last : to_z w32 (of_z w32 x.last) ≡ x.last = to_z-of_z w32 x.last (search rules) in
    let trap = rw (first, last) at c.given_nothing.ensures in
    traps-load d (env_of c.args.site.at.now) (list_of c.args.cells.now) c.args.name.now c.in_ok-copy.copy c.args.memory c.signal_form-form.result.width x.first x.last (row_of x) c.given_nothing.result c.in_ok-copy.ensures there
    (ap (λ (z : Form). z.width) form) refl (memory-words x.kind x.first x.last (is-memory (names_of d) c.args.memory (row_of x) there c.requires)) trap
