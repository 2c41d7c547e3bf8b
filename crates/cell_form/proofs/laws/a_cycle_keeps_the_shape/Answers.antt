use Rattle.cell_form.proofs.Cycling.{same-shape}
use Rattle.cell_form.proofs.laws.a_cycle_keeps_the_shape.Goals as goal

pub returns : goal.returns
returns c = same-shape
