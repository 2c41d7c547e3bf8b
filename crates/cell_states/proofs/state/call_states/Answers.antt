use Rattle.std.proofs.Common.{ap}
use Rattle.cell_emit.specs.cell_form.specs.Data.{ListData}
use Rattle.cell_emit.specs.cell_form.specs.Views.{list_of}
use Rattle.cell_states.specs.Widths.{register_width}
use Rattle.cell_states.proofs.Trimming.{calls-trimmed}
use Rattle.cell_states.proofs.state.call_states.Goals as goal

pub returns-clause-narrow : goal.returns-clause-narrow
returns-clause-narrow c d order n x made = c.in_ok-trimmed.ensures.trimmed.widths (register_width d) made.narrow

pub returns-clause-calls : goal.returns-clause-calls
returns-clause-calls c d order n g task made call asks =
    let trim = rw c.as_slice.ensures at c.in_ok-trimmed.ensures.trimmed in
    rw c.from_vec.ensures
    (calls-trimmed d order n g c.args.number c.args.to task (list_of c.args.cells.now) c.args.sets.now c.args.call c.args.first (list_of c.in_ok-trimmed.trimmed.cells) _ c.in_ok-trimmed.trimmed.slots.items c.in_ok-nexts.nexts c.in_ok-one.field-0
    trim made call asks c.in_ok-one.ensures
    (ap (λ (l : ListData). l.cells) c.no_cells.ensures) (ap (λ (l : ListData). l.sets) c.no_cells.ensures))
