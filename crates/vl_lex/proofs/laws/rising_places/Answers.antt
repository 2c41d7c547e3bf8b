use Rattle.vl_lex.proofs.TokenLaws.{tokens_rise}
use Rattle.vl_lex.proofs.laws.rising_places.Goals as goal

pub returns : goal.returns
returns c = λ text ts h. tokens_rise text ts h
