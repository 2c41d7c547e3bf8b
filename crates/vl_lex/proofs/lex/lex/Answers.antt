use Rattle.vl_lex.proofs.LexLaws.{only_tokens, only_fault, only_limit}
use Rattle.vl_lex.proofs.lex.lex.Goals as goal

pub returns-clause-only_tokens : goal.returns-clause-only_tokens
returns-clause-only_tokens c = λ ts h. only_tokens c.args.text.now c.tokens_of.result ts c.tokens_of.ensures.read c.tokens_of.ensures.refused h

pub returns-clause-only_fault : goal.returns-clause-only_fault
returns-clause-only_fault c = λ place cause h. only_fault c.args.text.now c.tokens_of.result place cause c.tokens_of.ensures.read c.tokens_of.ensures.refused h

pub returns-clause-only_limit : goal.returns-clause-only_limit
returns-clause-only_limit c = λ place limit h. only_limit c.args.text.now c.tokens_of.result place limit c.tokens_of.ensures.read c.tokens_of.ensures.refused h
