use Rattle.cell_form.proofs.Writing.{register-stands, register-stays}
use Rattle.cell_form.proofs.laws.the_later_write_of_a_register_stands.Goals as goal

pub returns-clause-stands : goal.returns-clause-stands
returns-clause-stands c = register-stands

pub returns-clause-stays : goal.returns-clause-stays
returns-clause-stays c = register-stays
