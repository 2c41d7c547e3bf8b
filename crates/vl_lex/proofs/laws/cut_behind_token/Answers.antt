use Rattle.vl_lex.proofs.CutBehind.{each_cut, behind_read_or_open}
use Rattle.vl_lex.proofs.laws.cut_behind_token.Goals as goal

pub returns-clause-each : goal.returns-clause-each
returns-clause-each c = λ text ts n r h. each_cut text ts n r h

pub returns-clause-read_or_open : goal.returns-clause-read_or_open
returns-clause-read_or_open c = λ text cut ts n r k. behind_read_or_open text cut ts n r k
