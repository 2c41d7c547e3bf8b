use Rattle.vl_accept.proofs.Faults.{one_writer}
use Rattle.vl_accept.proofs.pure_laws.a_variable_has_one_writer.Goals as goal

pub returns : goal.returns
returns c = λ d before a between b after k none e x store f. one_writer d before a between b after k none e x store f
