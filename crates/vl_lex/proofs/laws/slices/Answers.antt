use Rattle.vl_lex.proofs.TokenLaws.{tokens_slices}
use Rattle.vl_lex.proofs.laws.slices.Goals as goal

pub returns : goal.returns
returns c = λ text ts h. tokens_slices text ts h
