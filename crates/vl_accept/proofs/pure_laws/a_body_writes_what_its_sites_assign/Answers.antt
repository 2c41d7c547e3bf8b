use Rattle.vl_accept.proofs.Silent.{silent}
use Rattle.vl_accept.proofs.pure_laws.a_body_writes_what_its_sites_assign.Goals as goal

pub returns : goal.returns
returns c = λ p scope path a e h. silent p scope path a h e
