use Rattle.vl_lex.proofs.CutBehind.{three_read, three_cut, three_fault}
use Rattle.vl_lex.proofs.laws.cut_star.Goals as goal

pub returns-clause-whole : goal.returns-clause-whole
returns-clause-whole c = three_read

pub returns-clause-cut : goal.returns-clause-cut
returns-clause-cut c = three_cut

pub returns-clause-fault : goal.returns-clause-fault
returns-clause-fault c = three_fault
