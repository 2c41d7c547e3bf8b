use Rattle.vl_lex.proofs.PassLaws.{tokens_once}
use Rattle.vl_lex.proofs.laws.one_list.Goals as goal

pub returns : goal.returns
returns c = λ text ts us h k. tokens_once text ts us h k
