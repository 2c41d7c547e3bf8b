use Rattle.std.proofs.Common.{length, refl, sym}
use Rattle.std.proofs.lemmas.List.{length-map}
use Rattle.cell_emit.specs.cell_form.specs.Views.{cell_of, list_of}
use Rattle.cell_states.proofs.Trimming.{is-trimmed}
use Rattle.cell_states.proofs.state.trimmed.Goals as goal

pub returns-clause-trimmed : goal.returns-clause-trimmed
returns-clause-trimmed c =
    let e = c.trim.ensures in
    let cells = c.args.cells.now in
    is-trimmed c.trim.result (list_of cells) (length cells.cells) c.args.sets.now c.args.sets.now c.args.wanted.now c.args.first (sym (length-map cells.cells cell_of)) refl
    e.first e.there e.sound e.widths e.values e.writes
