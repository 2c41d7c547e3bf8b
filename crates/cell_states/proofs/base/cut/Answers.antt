use Rattle.std.proofs.Common.{List, map, take, sym, ap, ◌∙◌}
use Rattle.std.proofs.lemmas.List.{take-map, take_at}
use Rattle.cell_emit.specs.cell_form.specs.Data.{CellData, ListData}
use Rattle.cell_emit.specs.cell_form.specs.Views.{cell_of, list_of}
use Rattle.cell_states.proofs.base.cut.Goals as goal

pub returns : goal.returns
returns c l count grows =
    let old = c.args.cells.now in
    let cells =
    ap (map cell_of) c.truncate.ensures ∙ (sym (take-map cell_of c.args.count old.cells) ∙ (ap (λ (a : ListData). take c.args.count a.cells) grows.is ∙ take_at l.cells grows.more c.args.count count)) in
    ap (λ (xs : List CellData). record (list_of old) { cells = xs }) cells ∙ ap (λ (a : ListData). record a { cells = l.cells }) grows.is
