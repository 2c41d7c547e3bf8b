use Rattle.cell_form.proofs.Writing.{masked-bit}
use Rattle.cell_form.proofs.laws.masked_bits.Goals as goal

pub returns : goal.returns
returns c = masked-bit
