use Rattle.cell_form.proofs.Writing.{word-stands, word-stays}
use Rattle.cell_form.proofs.laws.the_later_write_of_a_word_stands.Goals as goal

pub returns-clause-stands : goal.returns-clause-stands
returns-clause-stands c = word-stands

pub returns-clause-stays : goal.returns-clause-stays
returns-clause-stays c = word-stays
