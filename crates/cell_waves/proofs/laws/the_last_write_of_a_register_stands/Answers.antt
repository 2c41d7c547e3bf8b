use Rattle.cell_waves.proofs.Lasting.{register-behind}
use Rattle.cell_waves.proofs.laws.the_last_write_of_a_register_stands.Goals as goal

pub returns : goal.returns
returns c = register-behind
