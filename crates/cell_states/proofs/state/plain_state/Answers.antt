use Rattle.std.proofs.Common.{refl, []}
use Rattle.cell_emit.specs.cell_form.specs.Views.{list_of}
use Rattle.cell_states.specs.Widths.{register_width}
use Rattle.cell_states.proofs.Trimming.{does-trimmed}
use Rattle.cell_states.proofs.state.plain_state.Goals as goal

pub returns-clause-narrow : goal.returns-clause-narrow
returns-clause-narrow c d order n x made = c.in_ok-trimmed.ensures.trimmed.widths (register_width d) made.narrow

pub returns-clause-does : goal.returns-clause-does
returns-clause-does c d order n x made =
    record {
      none = refl;
      does = does-trimmed d order n x (list_of c.args.cells.now) c.args.sets.now [] c.args.first (list_of c.in_ok-trimmed.trimmed.cells) c.in_ok-trimmed.trimmed.slots.items c.in_ok-trimmed.ensures.trimmed made;
    }
