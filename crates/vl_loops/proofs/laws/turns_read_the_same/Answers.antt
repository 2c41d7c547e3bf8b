use Rattle.vl_loops.proofs.Reading.{reads_same}
use Rattle.vl_loops.proofs.laws.turns_read_the_same.Goals as goal

pub returns : goal.returns
returns c = λ scope p none a e. reads_same scope p none a e
