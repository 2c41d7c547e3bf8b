use Rattle.cell_form.proofs.Slots.{slots-length, slot-is}
use Rattle.cell_form.proofs.laws.each_slot_is_its_operation.Goals as goal

pub returns-clause-one : goal.returns-clause-one
returns-clause-one c = slots-length

pub returns-clause-operation : goal.returns-clause-operation
returns-clause-operation c = slot-is
