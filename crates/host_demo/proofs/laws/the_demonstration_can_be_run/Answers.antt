use Rattle.host_demo.proofs.Expected.{expected}
use Rattle.host_demo.proofs.Read.{reads, available}
use Rattle.host_demo.proofs.laws.the_demonstration_can_be_run.Goals as goal

pub returns : goal.returns
returns c = λ n l m. (expected n, reads n l m, available n m)
