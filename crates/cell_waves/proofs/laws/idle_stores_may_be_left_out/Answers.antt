use Rattle.cell_waves.proofs.Leaving.{holds-fewer}
use Rattle.cell_waves.proofs.laws.idle_stores_may_be_left_out.Goals as goal

pub returns : goal.returns
returns c = holds-fewer
