use Rattle.vl_lex.proofs.CutRuns.{no_other_tokens}
use Rattle.vl_lex.proofs.CutBehind.{cut_read_or_open}
use Rattle.vl_lex.proofs.laws.cut_text.Goals as goal

pub returns-clause-read_or_open : goal.returns-clause-read_or_open
returns-clause-read_or_open c = λ cut rest end ts short few h. cut_read_or_open cut rest end ts short few h

pub returns-clause-no_others : goal.returns-clause-no_others
returns-clause-no_others c = λ cut rest end ts us h k. no_other_tokens cut rest end ts us h k
