use Rattle.cell_form.proofs.Slots.{slots-stay}
use Rattle.cell_form.proofs.laws.slots_stay.Goals as goal

pub returns : goal.returns
returns c = slots-stay
