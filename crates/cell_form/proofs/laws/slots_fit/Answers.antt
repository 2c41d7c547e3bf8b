use Rattle.cell_form.proofs.Slots.{slots-widths}
use Rattle.cell_form.proofs.Fitting.{slots-fit}
use Rattle.cell_form.proofs.laws.slots_fit.Goals as goal

pub returns-clause-widths : goal.returns-clause-widths
returns-clause-widths c = slots-widths

pub returns-clause-values : goal.returns-clause-values
returns-clause-values c = slots-fit
