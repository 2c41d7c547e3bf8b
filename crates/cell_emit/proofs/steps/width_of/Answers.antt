use Rattle.std.proofs.Common.{◌-◌, get_or, ap, ◌∙◌, arith}
use Rattle.std.proofs.lemmas.List.{length-map}
use Rattle.cell_form.specs.Views.{cell_of}
use Rattle.cell_emit.proofs.Newest.{code-width}
use Rattle.cell_emit.proofs.steps.width_of.Goals as goal

pub returns : goal.returns
returns c =
    let cells = c.args.cells.now.cells in
    let high = c.requires.1 in
    let low = c.requires.0 in
    let long = length-map cells cell_of in
    ap (λ xs. (get_or xs (c.args.slot - c.args.cells.now.first) c.index-as_slice-slot.result).width) c.as_slice.ensures
    ∙ code-width cells (c.args.slot - c.args.cells.now.first) c.index-as_slice-slot.result (omega arith)
